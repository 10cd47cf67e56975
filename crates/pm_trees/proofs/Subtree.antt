-- Between the two brackets of an edge stands one more leaf than buds.
use Rattle.std.proofs.Common.{◌≡◌, ℕ, zero, suc, ◌+◌, ◌-◌, ◌*◌, ◌<◌, ◌≤◌, inl, inr, List, [], ◌∷◌, ◌++◌, length, take, drop, slice_index, IsTrue, refl, ap, subst, sym, ◌∙◌, arith, drop-cons, take-append-drop, drop-drop, get_or-take, get_or-drop, length-take}
use Rattle.std.proofs.lemmas.Bool.{cases_eq}
use Rattle.std.proofs.lemmas.List.{drop-append-le}
use Rattle.std.proofs.lemmas.List.Elements.{All-take, All-drop}
use Rattle.pm_trees.specs.declared.letters.TheConstants.{LEAF, BUD}
use Rattle.pm_brackets.specs.declared.letters.TheConstants.{OPEN, CLOSE}
use Rattle.pm_brackets.specs.Word.{count, between, IsBracketPair, IsMatched}
use Rattle.pm_trees.specs.Word.{contour, is_letter}
use Rattle.pm_trees.specs.Node.{IsBudded, own_letters}
use Rattle.pm_trees.specs.Blossoming.{IsBlossoming}
use Rattle.pm_brackets.proofs.Levels.{inside}
use Rattle.pm_brackets.proofs.Tally.{tally, tally_is, tally-nil, tally_yes, tally_no, tally-append}
use Rattle.pm_brackets.specs.Word.{IsOther}
use Rattle.pm_trees.proofs.Own.{other_here, other_above, open_above, close_above, own_length, own_buds, own_length_is, own_buds_is}
use Rattle.pm_trees.proofs.Balance.{Rest, balance}

-- a text with as many `)` as `(` or more, from a level on, has no more letters of that level behind the next `)`
record IsCut (d : ℕ) (xs : List ℕ) : Type 0 where
  enough : d + tally OPEN xs ≤ tally CLOSE xs

other_case : (x : ℕ) (xs ys : List ℕ) (d : ℕ) → IsOther x → IsCut d (x ∷ xs) → (IsCut d xs → own_letters d (xs ++ CLOSE ∷ ys) ≡ own_letters d xs) → own_letters d (x ∷ (xs ++ CLOSE ∷ ys)) ≡ own_letters d (x ∷ xs)
other_case x xs ys zero o c h =
    let a = tally_no OPEN x xs o.not_open in
    let b = tally_no CLOSE x xs o.not_close in
    let e = c.enough in
    other_here x (xs ++ CLOSE ∷ ys) o ∙ ap (λ (zs : List ℕ). x ∷ zs) (h (record { enough = omega (arith, a, b, e) })) ∙ sym (other_here x xs o)
other_case x xs ys (suc d) o c h =
    let a = tally_no OPEN x xs o.not_open in
    let b = tally_no CLOSE x xs o.not_close in
    let e = c.enough in
    other_above d x (xs ++ CLOSE ∷ ys) o ∙ h (record { enough = omega (arith, a, b, e) }) ∙ sym (other_above d x xs o)

open_case : (xs ys : List ℕ) (d : ℕ) → IsCut d (OPEN ∷ xs) → (IsCut (suc d) xs → own_letters (suc d) (xs ++ CLOSE ∷ ys) ≡ own_letters (suc d) xs) → own_letters d (OPEN ∷ (xs ++ CLOSE ∷ ys)) ≡ own_letters d (OPEN ∷ xs)
open_case xs ys zero c h =
    let a = tally_yes OPEN OPEN xs refl in
    let b = tally_no CLOSE OPEN xs (λ k. omega arith) in
    let e = c.enough in
    ap (λ (zs : List ℕ). OPEN ∷ zs) (h (record { enough = omega (arith, a, b, e) }))
open_case xs ys (suc d) c h =
    let a = tally_yes OPEN OPEN xs refl in
    let b = tally_no CLOSE OPEN xs (λ k. omega arith) in
    let e = c.enough in
    open_above d (xs ++ CLOSE ∷ ys) ∙ h (record { enough = omega (arith, a, b, e) }) ∙ sym (open_above d xs)

close_case : (xs ys : List ℕ) (d : ℕ) → IsCut d (CLOSE ∷ xs) → ((e : ℕ) → IsCut e xs → own_letters e (xs ++ CLOSE ∷ ys) ≡ own_letters e xs) → own_letters d (CLOSE ∷ (xs ++ CLOSE ∷ ys)) ≡ own_letters d (CLOSE ∷ xs)
close_case xs ys zero c h = refl
close_case xs ys (suc d) c h =
    let a = tally_no OPEN CLOSE xs (λ k. omega arith) in
    let b = tally_yes CLOSE CLOSE xs refl in
    let e = c.enough in
    close_above d (xs ++ CLOSE ∷ ys) ∙ h d (record { enough = omega (arith, a, b, e) }) ∙ sym (close_above d xs)

end_case : (ys : List ℕ) (d : ℕ) → IsCut d [] → own_letters d (CLOSE ∷ ys) ≡ own_letters d []
end_case ys zero c = refl
end_case ys (suc d) c =
    let a = tally-nil OPEN in
    let b = tally-nil CLOSE in
    let e = c.enough in
    absurd (omega (arith, a, b, e))

own_cut : (xs ys : List ℕ) (d : ℕ) → IsCut d xs → own_letters d (xs ++ CLOSE ∷ ys) ≡ own_letters d xs
own_cut [] ys d c = end_case ys d c
own_cut (x ∷ xs) ys d c =
    elim (cases_eq x OPEN) [
      | inl o ↦
          let P : ℕ → Type 0 = λ y. own_letters d (y ∷ (xs ++ CLOSE ∷ ys)) ≡ own_letters d (y ∷ xs) in
          let C : ℕ → Type 0 = λ y. IsCut d (y ∷ xs) in
          subst P (sym o) (open_case xs ys d (subst C o c) (λ k. own_cut xs ys (suc d) k))
      | inr n ↦ elim (cases_eq x CLOSE) [
        | inl e ↦
            let P : ℕ → Type 0 = λ y. own_letters d (y ∷ (xs ++ CLOSE ∷ ys)) ≡ own_letters d (y ∷ xs) in
            let C : ℕ → Type 0 = λ y. IsCut d (y ∷ xs) in
            subst P (sym e) (close_case xs ys d (subst C e c) (λ f k. own_cut xs ys f k))
        | inr m ↦ other_case x xs ys d (record { not_open = n; not_close = m }) c (λ k. own_cut xs ys d k)
      ]
    ]

-- the text behind a `(`: what stands before its `)`, the `)`, and the rest
behind : (places : List ℕ) (p q : ℕ) → IsBracketPair places p q → drop (suc p) places ≡ between places p q ++ CLOSE ∷ drop (suc q) places
behind places p q b =
    let l = b.before in
    let h : q < length places = inside places q CLOSE (omega arith) b.closes in
    let a : take (q - suc p) (drop (suc p) places) ++ drop (q - suc p) (drop (suc p) places) ≡ drop (suc p) places = take-append-drop (q - suc p) (drop (suc p) places) in
    let d : drop (q - suc p) (drop (suc p) places) ≡ drop (suc p + (q - suc p)) places = drop-drop (q - suc p) (suc p) places in
    let e : suc p + (q - suc p) ≡ q = omega arith in
    let f : drop q places ≡ CLOSE ∷ drop (suc q) places = drop-cons places q 0 h ∙ ap (λ (y : ℕ). y ∷ drop (suc q) places) b.closes in
    let g : drop (q - suc p) (drop (suc p) places) ≡ CLOSE ∷ drop (suc q) places = d ∙ ap (λ (k : ℕ). drop k places) e ∙ f in
    sym a ∙ ap (λ (zs : List ℕ). between places p q ++ zs) g

-- the rest of a matched text has as many `)` as `(` or more
cut_rest : (xs : List ℕ) (k : ℕ) → IsMatched xs → IsCut 0 (drop k xs)
cut_rest xs k m =
    let e = take-append-drop k xs in
    let a = tally-append OPEN (take k xs) (drop k xs) in
    let b = tally-append CLOSE (take k xs) (drop k xs) in
    let c = ap (tally OPEN) e in
    let d = ap (tally CLOSE) e in
    let f = tally_is OPEN xs in
    let g = tally_is CLOSE xs in
    let h = tally_is OPEN (take k xs) in
    let i = tally_is CLOSE (take k xs) in
    let n = m.never_below k in
    record { enough = omega (arith, a, b, c, d, f, g, h, i, n, m.equal) }

-- a node inside
node_inside : (word : List ℕ) (p q k : ℕ) → IsBlossoming word → IsBracketPair (contour word) p q → slice_index (between (contour word) p q) k ≡ OPEN → 2 * suc (own_buds 0 (drop (suc k) (between (contour word) p q))) ≡ suc (own_length 0 (drop (suc k) (between (contour word) p q)))
node_inside word p q k t b o =
    let places = contour word in
    let xs = between (contour word) p q in
    let l : k < length xs = inside xs k OPEN (omega arith) o in
    let lt = length-take (q - suc p) (drop (suc p) (contour word)) in
    let n : k < q - suc p = omega (arith, lt, l) in
    let e : slice_index (contour word) (suc p + k) ≡ OPEN = sym (get_or-drop (suc p) (contour word) k 0) ∙ sym (get_or-take (q - suc p) (drop (suc p) (contour word)) k 0 n) ∙ o in
    let f : drop (suc k) (drop (suc p) (contour word)) ≡ drop (suc p + suc k) (contour word) = drop-drop (suc k) (suc p) (contour word) in
    let g : drop (suc k) (xs ++ CLOSE ∷ drop (suc q) (contour word)) ≡ drop (suc k) xs ++ CLOSE ∷ drop (suc q) (contour word) = drop-append-le (suc k) xs (CLOSE ∷ drop (suc q) (contour word)) l in
    let h : suc p + suc k ≡ suc (suc p + k) = omega arith in
    let i : drop (suc (suc p + k)) (contour word) ≡ drop (suc k) xs ++ CLOSE ∷ drop (suc q) (contour word) =
    ap (λ (j : ℕ). drop j (contour word)) (sym h) ∙ sym f ∙ ap (drop (suc k)) (behind (contour word) p q b) ∙ g in
    let j : own_letters 0 (drop (suc (suc p + k)) (contour word)) ≡ own_letters 0 (drop (suc k) xs) =
    ap (own_letters 0) i ∙ own_cut (drop (suc k) xs) (drop (suc q) (contour word)) 0 (cut_rest xs (suc k) b.matched) in
    let u : IsBudded (contour word) (suc p + k) = t.buds (suc p + k) (inr e) in
    let v = ap length j in
    let w = ap (count BUD) j in
    let x = own_length_is 0 (drop (suc k) xs) in
    let y = own_buds_is 0 (drop (suc k) xs) in
    omega (arith, u, v, w, x, y)

rest_inside : (word : List ℕ) (p q : ℕ) → IsBlossoming word → IsBracketPair (contour word) p q → Rest 0 (between (contour word) p q)
rest_inside word p q t b = record {
  letters = All-take (λ y. IsTrue (is_letter y)) (q - suc p) (drop p word) (All-drop (λ y. IsTrue (is_letter y)) p word t.in_order.letters);
  not_below = λ k.
      let n = b.matched.never_below k in
      let c = tally_is CLOSE (take k (between (contour word) p q)) in
      let d = tally_is OPEN (take k (between (contour word) p q)) in
      omega (arith, n, c, d);
  budded = λ k o. node_inside word p q k t b o;
}

pub subtree_balance : (word : List ℕ) (p q : ℕ) → IsBlossoming word → IsBracketPair (contour word) p q → count LEAF (between (contour word) p q) ≡ count BUD (between (contour word) p q) + 1
subtree_balance word p q t b =
    let xs = between (contour word) p q in
    let s = (balance (between (contour word) p q) 0 (rest_inside word p q t b)).sums in
    let j : own_letters 0 (drop (suc p) (contour word)) ≡ own_letters 0 (between (contour word) p q) =
    ap (own_letters 0) (behind (contour word) p q b) ∙ own_cut (between (contour word) p q) (drop (suc q) (contour word)) 0 (cut_rest (between (contour word) p q) 0 b.matched) in
    let u : IsBudded (contour word) p = t.buds p (inr b.opens) in
    let v = ap length j in
    let w = ap (count BUD) j in
    let x = own_length_is 0 (between (contour word) p q) in
    let y = own_buds_is 0 (between (contour word) p q) in
    let z = tally_is LEAF (between (contour word) p q) in
    let a = tally_is BUD (between (contour word) p q) in
    omega (arith, s, u, v, w, x, y, z, a)
