-- Plus and minus darts: the colours of the faces, told by their darts. Around each vertex they take turns.
use Rattle.std.proofs.Common.{◌≡◌, ℕ, ◌<◌, Bool, true, false, not, refl, sym, ap, ◌∙◌}
use Rattle.pm_map.specs.Structure.{Structure, IsStructure}
use Rattle.pm_medial.specs.Colouring.{IsColouring}

pub not_twice : (b : Bool) → not (not b) ≡ b
not_twice b = elim b as (λ v. not (not v) ≡ v) [ true ↦ refl | false ↦ refl ]

pub true_not_false : (b : Bool) → b ≡ true → b ≡ false → ⊥
true_not_false b positive negative = cc

module _ (s : Structure) (is : IsStructure s) (plus : ℕ → Bool) (signed : IsColouring s plus) where
  pub next_turns : (d : ℕ) → d < s.darts → plus (s.next d) ≡ not (plus d)
  next_turns d h =
      let around : plus (s.next (s.twin (s.twin d))) ≡ plus (s.twin d) = signed.around (s.twin d) (is.twin_stays d h) in
      sym (ap (λ e. plus (s.next e)) (is.twin_back d h)) ∙ around ∙ signed.across d h

  pub two_on : (d : ℕ) → d < s.darts → plus (s.next (s.next d)) ≡ plus d
  two_on d h = next_turns (s.next d) (is.rotation.stays d h) ∙ ap not (next_turns d h) ∙ not_twice (plus d)

  -- three steps on from the minus across an edge there is a plus
  pub three_on : (d : ℕ) → d < s.darts → plus (s.next (s.next (s.next (s.twin d)))) ≡ plus d
  three_on d h =
      let stays = is.twin_stays d h in
      two_on (s.next (s.twin d)) (is.rotation.stays (s.twin d) stays) ∙ signed.around d h

  pub two_stays : (d : ℕ) → d < s.darts → s.next (s.next d) < s.darts
  two_stays d h = is.rotation.stays (s.next d) (is.rotation.stays d h)

  pub three_stays : (d : ℕ) → d < s.darts → s.next (s.next (s.next d)) < s.darts
  three_stays d h = is.rotation.stays (s.next (s.next d)) (two_stays d h)
