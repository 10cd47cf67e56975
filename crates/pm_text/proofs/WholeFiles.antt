-- Files whose first lines agree to the end of one of them.
use Rattle.std.proofs.Common.{◌≡◌, ℕ, suc, ◌<◌, eqb, List, [], ◌∷◌, ◌++◌, length, length-append, take, refl, sym, ap, ap₂, ◌∙◌, inl, inr, arith}
use Rattle.std.specs.List.{AllByRecursion, onto_first, concat}
use Rattle.std.proofs.lemmas.Bool.{cases_Bool}
use Rattle.std.proofs.lemmas.List.{take_all}
use Rattle.pm_text.specs.Broken.{lines, lines_and_end, first_lines}
use Rattle.pm_text.proofs.LineLemmas.{concat-lines}

abbrev HaveBytes : List (List ℕ) → Type 0
HaveBytes pieces = AllByRecursion (λ (piece : List ℕ). 0 < length piece) pieces

-- each line has a byte
onto_first_has_bytes : (byte : ℕ) (pieces : List (List ℕ)) → HaveBytes pieces → HaveBytes (onto_first byte pieces)
onto_first_has_bytes byte [] all = (omega arith, tt)
onto_first_has_bytes byte (piece ∷ pieces) all = (omega arith, all.1)

lines_have_bytes : (bytes : List ℕ) → HaveBytes (lines bytes)
lines_have_bytes [] = tt
lines_have_bytes (byte ∷ bytes) =
    elim (cases_Bool (eqb byte 10)) [
      | inl e ↦ rw e (omega arith, lines_have_bytes bytes)
      | inr e ↦ rw e (onto_first_has_bytes byte (lines bytes) (lines_have_bytes bytes))
    ]

heads : {a b : List ℕ} {rest more : List (List ℕ)} → a ∷ rest ≡ b ∷ more → a ≡ b
heads e = cc

tails : {a b : List ℕ} {rest more : List (List ℕ)} → a ∷ rest ≡ b ∷ more → rest ≡ more
tails e = cc

-- pieces with bytes are told by the empty piece behind them
same_pieces : (xs ys : List (List ℕ)) → HaveBytes xs → HaveBytes ys → take (suc (length ys)) (xs ++ [] ∷ []) ≡ ys ++ [] ∷ [] → xs ≡ ys
same_pieces [] [] x y e = refl
same_pieces [] (b ∷ ys) x y e = let same : [] ≡ b = heads e in absurd (omega (arith, y.0, ap length same))
same_pieces (a ∷ xs) [] x y e = let same : a ≡ [] = heads e in absurd (omega (arith, x.0, ap length same))
same_pieces (a ∷ xs) (b ∷ ys) x y e = ap₂ (λ (p : List ℕ) (ps : List (List ℕ)). p ∷ ps) (heads e) (same_pieces xs ys x.1 y.1 (tails e))

-- a file with the same first lines as another, and the same end behind them, is that file
pub same_to_the_end : (file bytes : List ℕ) → first_lines (suc (length (lines bytes))) file ≡ first_lines (suc (length (lines bytes))) bytes → file ≡ bytes
same_to_the_end file bytes same =
    let whole : first_lines (suc (length (lines bytes))) bytes ≡ lines_and_end bytes = take_all (suc (length (lines bytes))) (lines_and_end bytes) (omega (arith, length-append (lines bytes) ([] ∷ []))) in
    let pieces : lines file ≡ lines bytes = same_pieces (lines file) (lines bytes) (lines_have_bytes file) (lines_have_bytes bytes) (same ∙ whole) in
    sym (concat-lines file) ∙ ap concat pieces ∙ concat-lines bytes
