-- What a pairing says of any three free leaves.
use Rattle.std.proofs.Common.{◌≡◌, ◌≢◌, ℕ, List, sym, ◌∙◌, inl, inr}
use Rattle.pm_match.specs.Pair.{IsFree}
use Rattle.pm_match.specs.Pairing.{Pairs, IsPairing}

-- of two free leaves that differ from a third one, each is the other
pub third_free : (places : List ℕ) (found : Pairs) (p q r : ℕ) → IsPairing places found → IsFree places p → IsFree places q → IsFree places r → p ≢ q → p ≢ r → q ≡ r
third_free places found p q r h f g k pq pr = elim (h.free.no_third p f) [
  | inl at_first ↦ elim (h.free.no_third q g) [
    | inl e ↦ absurd (pq (at_first ∙ sym e))
    | inr e ↦ elim (h.free.no_third r k) [ inl d ↦ absurd (pr (at_first ∙ sym d)) | inr d ↦ e ∙ sym d ]
  ]
  | inr at_second ↦ elim (h.free.no_third q g) [
    | inl e ↦ elim (h.free.no_third r k) [ inl d ↦ e ∙ sym d | inr d ↦ absurd (pr (at_second ∙ sym d)) ]
    | inr e ↦ absurd (pq (at_second ∙ sym e))
  ]
]
