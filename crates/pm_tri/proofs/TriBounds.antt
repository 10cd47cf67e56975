-- The bounds of triangulations are bounds, and neither too many nor too great.
use Rattle.std.proofs.Common.{◌≡◌, ℕ, ◌-◌, ◌*◌, ◌^◌, ◌<◌, ◌≤◌, List, [], ◌∷◌, ◌++◌, length, length-append, append_assoc, ◌∙◌, ap, arith}
use Rattle.std.specs.Prelude.{All}
use Rattle.std.proofs.lemmas.List.Elements.{All-append, All-cons, All-nil}
use Rattle.pm_limits.specs.declared.TheConstants.{MAX_EDGES}
use Rattle.pm_lists.specs.Valid.{AreBounds}
use Rattle.pm_objects.specs.Codes.{code_bounds}
use Rattle.pm_objects.proofs.CodeBounds.{code_bounds_low, code_positive, length-code_bounds}
use Rattle.pm_tri.specs.Bounds.{TriBoundsAreLimits, tri_choices, tri_residues}
use Rattle.pm_tri.specs.Triangulations.{IsTriSize}

pub tri_choices_are : (n : ℕ) → AreBounds (tri_choices n)
tri_choices_are n = record {
  each = (let P : ℕ → Type 0 = λ bound. 1 ≤ bound in All-append P (code_bounds (4 * n - 2)) (2 ∷ 2 ∷ []) (code_positive (4 * n - 2)) (All-cons P 2 (2 ∷ []) (omega arith) (All-cons P 2 [] (omega arith) (All-nil P))));
}

pub tri_residues_are : (n : ℕ) → IsTriSize n → AreBounds (tri_residues n)
tri_residues_are n size =
    let P : ℕ → Type 0 = λ bound. 1 ≤ bound in
    let some = size.some in
    record {
      each = All-cons P (4 * n - 2) ((code_bounds (n - 1) ++ code_bounds (3 * n - 1)) ++ 2 * n ∷ []) (omega (arith, some))
          (All-append P (code_bounds (n - 1) ++ code_bounds (3 * n - 1)) (2 * n ∷ [])
          (All-append P (code_bounds (n - 1)) (code_bounds (3 * n - 1)) (code_positive (n - 1)) (code_positive (3 * n - 1)))
          (All-cons P (2 * n) [] (omega (arith, some)) (All-nil P)));
    }

-- what is at most a number is below a greater one
weaker : (most : ℕ) (bounds : List ℕ) → most < 2 ^ 64 → All (λ bound. bound ≤ most) bounds → All (λ bound. bound < 2 ^ 64) bounds
weaker most bounds low all = λ k d less. (let h = all k d less in omega (arith, h, low))

choices_low : (n : ℕ) → IsTriSize n → All (λ bound. bound ≤ 2 * MAX_EDGES) (tri_choices n)
choices_low n size =
    let P : ℕ → Type 0 = λ bound. bound ≤ 2 * MAX_EDGES in
    let few = size.few in
    All-append P (code_bounds (4 * n - 2)) (2 ∷ 2 ∷ []) (code_bounds_low (2 * MAX_EDGES) (4 * n - 2) (omega (arith, few)))
    (All-cons P 2 (2 ∷ []) (omega arith) (All-cons P 2 [] (omega arith) (All-nil P)))

residues_low : (n : ℕ) → IsTriSize n → All (λ bound. bound ≤ 2 * MAX_EDGES) (tri_residues n)
residues_low n size =
    let P : ℕ → Type 0 = λ bound. bound ≤ 2 * MAX_EDGES in
    let few = size.few in
    All-cons P (4 * n - 2) ((code_bounds (n - 1) ++ code_bounds (3 * n - 1)) ++ 2 * n ∷ []) (omega (arith, few))
    (All-append P (code_bounds (n - 1) ++ code_bounds (3 * n - 1)) (2 * n ∷ [])
    (All-append P (code_bounds (n - 1)) (code_bounds (3 * n - 1)) (code_bounds_low (2 * MAX_EDGES) (n - 1) (omega (arith, few))) (code_bounds_low (2 * MAX_EDGES) (3 * n - 1) (omega (arith, few))))
    (All-cons P (2 * n) [] (omega (arith, few)) (All-nil P)))

-- there are 4n of each
length-tri_choices : (n : ℕ) → 0 < n → length (tri_choices n) ≡ 4 * n
length-tri_choices n some = (let a = length-append (code_bounds (4 * n - 2)) (2 ∷ 2 ∷ []) in let b = length-code_bounds (4 * n - 2) in omega (arith, a, b, some))

length-tri_residues : (n : ℕ) → 0 < n → length (tri_residues n) ≡ 4 * n
length-tri_residues n some =
    let a = length-append (code_bounds (n - 1) ++ code_bounds (3 * n - 1)) (2 * n ∷ []) in
    let b = length-append (code_bounds (n - 1)) (code_bounds (3 * n - 1)) in
    let c = length-code_bounds (n - 1) in
    let d = length-code_bounds (3 * n - 1) in
    omega (arith, a, b, c, d, some)

pub tri_bounds_are_limits : TriBoundsAreLimits
tri_bounds_are_limits n size =
    let few = size.few in
    let choices = length-tri_choices n size.some in
    let residues = length-tri_residues n size.some in
    record {
      choice_bounds = tri_choices_are n;
      choices_fit = record { each = weaker (2 * MAX_EDGES) (tri_choices n) (omega arith) (choices_low n size) };
      few_choices = omega (arith, few, choices);
      residue_bounds = tri_residues_are n size;
      few_residues = omega (arith, few, residues);
      low_residues = residues_low n size;
    }

-- the bounds one after another
pub choices_pushed : (n : ℕ) (none code start whole : List ℕ) → none ≡ [] → code ≡ none ++ code_bounds (4 * n - 2) → start ≡ code ++ 2 ∷ [] → whole ≡ start ++ 2 ∷ [] → whole ≡ tri_choices n
choices_pushed n none code start whole a b c d =
    let e : code ≡ code_bounds (4 * n - 2) = b ∙ ap (λ (xs : List ℕ). xs ++ code_bounds (4 * n - 2)) a in
    d ∙ ap (λ (xs : List ℕ). xs ++ 2 ∷ []) (c ∙ ap (λ (xs : List ℕ). xs ++ 2 ∷ []) e) ∙ append_assoc (code_bounds (4 * n - 2)) (2 ∷ []) (2 ∷ [])

pub residues_pushed : (n first last : ℕ) (none start ones zeros whole : List ℕ) → none ≡ [] → first ≡ 4 * n - 2 → start ≡ none ++ first ∷ [] → ones ≡ start ++ code_bounds (n - 1) → zeros ≡ ones ++ code_bounds (3 * n - 1)
    → last ≡ 2 * n → whole ≡ zeros ++ last ∷ [] → whole ≡ tri_residues n
residues_pushed n first last none start ones zeros whole a f b c d l e =
    let g : start ≡ (4 * n - 2) ∷ [] = b ∙ ap (λ (xs : List ℕ). xs ++ first ∷ []) a ∙ ap (λ (k : ℕ). k ∷ []) f in
    let h : ones ≡ (4 * n - 2) ∷ code_bounds (n - 1) = c ∙ ap (λ (xs : List ℕ). xs ++ code_bounds (n - 1)) g in
    let i : zeros ≡ (4 * n - 2) ∷ (code_bounds (n - 1) ++ code_bounds (3 * n - 1)) = d ∙ ap (λ (xs : List ℕ). xs ++ code_bounds (3 * n - 1)) h in
    e ∙ ap (λ (xs : List ℕ). xs ++ last ∷ []) i ∙ ap (λ (k : ℕ). ((4 * n - 2) ∷ (code_bounds (n - 1) ++ code_bounds (3 * n - 1))) ++ k ∷ []) l
