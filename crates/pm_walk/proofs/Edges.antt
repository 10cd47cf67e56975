-- The edges by kind: which dart is met first, and whether the edge is cut.
use Rattle.std.proofs.Common.{◌≡◌, ℕ, ◌<◌, ◌≤◌, ◌⊎◌, inl, inr, Bool, true, false, cond, sym, ap, ◌∙◌, arith}
use Rattle.std.proofs.lemmas.Bool.{cases_lt, cases_order, cond-true, cond-false, lt-ltb, le-ltb}
use Rattle.pm_map.specs.Structure.{Structure, IsStructure}
use Rattle.pm_walk.specs.Walk.{first_of, is_cut, across, partner}

-- a dart is the lesser of its edge or the greater
pub lesser_or_greater : (s : Structure) (d : ℕ) → IsStructure s → d < s.darts → (d < s.twin d) ⊎ (s.twin d < d)
lesser_or_greater s d is h = elim (cases_order d (s.twin d)) [ inl same ↦ absurd (is.twin_other d h (sym same)) | inr apart ↦ apart ]

-- the dart of an edge that is met first is its lesser dart
pub first_is_twin : (s : Structure) (d : ℕ) → s.twin d < d → first_of s d ≡ s.twin d
first_is_twin s d l = ap (λ (b : Bool). cond b (s.twin d) d) (lt-ltb (s.twin d) d l)

pub first_is_own : (s : Structure) (d : ℕ) → d ≤ s.twin d → first_of s d ≡ d
first_is_own s d l = ap (λ (b : Bool). cond b (s.twin d) d) (le-ltb (s.twin d) d l)

pub first_is : (s : Structure) (d : ℕ) → (first_of s d ≡ d) ⊎ (first_of s d ≡ s.twin d)
first_is s d = elim (cases_lt (s.twin d) d) [ inl less ↦ inr (first_is_twin s d less) | inr more ↦ inl (first_is_own s d more) ]

pub first_below : (s : Structure) (d : ℕ) → first_of s d ≤ d
first_below s d = elim (cases_lt (s.twin d) d) [ inl less ↦ omega (arith, first_is_twin s d less) | inr more ↦ omega (arith, first_is_own s d more) ]

pub first_below_twin : (s : Structure) (d : ℕ) → first_of s d ≤ s.twin d
first_below_twin s d = elim (cases_lt (s.twin d) d) [ inl less ↦ omega (arith, first_is_twin s d less) | inr more ↦ omega (arith, first_is_own s d more) ]

-- both darts of an edge have the same first one
first_of_twin : (s : Structure) (d : ℕ) → IsStructure s → d < s.darts → first_of s (s.twin d) ≡ first_of s d
first_of_twin s d is h =
    let back : s.twin (s.twin d) ≡ d = is.twin_back d h in
    elim (lesser_or_greater s d is h) [
      | inl less ↦ first_is_twin s (s.twin d) (omega (arith, back, less)) ∙ back ∙ sym (first_is_own s d (omega (arith, less)))
      | inr more ↦ first_is_own s (s.twin d) (omega (arith, back, more)) ∙ sym (first_is_twin s d more)
    ]

-- an edge is cut at both of its darts or at none
pub cut_twin : (s : Structure) (out : ℕ → Bool) (d : ℕ) → IsStructure s → d < s.darts → is_cut s out (s.twin d) ≡ is_cut s out d
cut_twin s out d is h = ap out (first_of_twin s d is h)

-- it is where its first dart passes
pub cut_is_out : (s : Structure) (out : ℕ → Bool) (d : ℕ) → d ≤ s.twin d → is_cut s out d ≡ out d
cut_is_out s out d l = ap out (first_is_own s d l)

pub cut_is_twin_out : (s : Structure) (out : ℕ → Bool) (d : ℕ) → s.twin d < d → is_cut s out d ≡ out (s.twin d)
cut_is_twin_out s out d l = ap out (first_is_twin s d l)

-- the dart across and the partner, by whether the edge is cut
pub across_cut : (s : Structure) (out : ℕ → Bool) (d : ℕ) → is_cut s out d ≡ true → across s out d ≡ d
across_cut s out d e = cond-true (is_cut s out d) d (s.twin d) e

pub across_kept : (s : Structure) (out : ℕ → Bool) (d : ℕ) → is_cut s out d ≡ false → across s out d ≡ s.twin d
across_kept s out d e = cond-false (is_cut s out d) d (s.twin d) e

pub partner_cut : (s : Structure) (out : ℕ → Bool) (d : ℕ) → is_cut s out d ≡ true → partner s out d ≡ s.twin d
partner_cut s out d e = cond-true (is_cut s out d) (s.twin d) d e

pub partner_kept : (s : Structure) (out : ℕ → Bool) (d : ℕ) → is_cut s out d ≡ false → partner s out d ≡ d
partner_kept s out d e = cond-false (is_cut s out d) (s.twin d) d e
