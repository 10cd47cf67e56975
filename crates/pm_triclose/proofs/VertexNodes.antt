-- The darts at one vertex of a whole tree's closure are at one node.
use Rattle.std.proofs.Common.{◌≡◌, ℕ, zero, suc, ◌%◌, ◌<◌, inl, inr, List, length, slice_index, refl, ap, ◌∙◌, sym, subst, arith}
use Rattle.pm_brackets.specs.Ring.{AreBrackets}
use Rattle.pm_brackets.specs.Word.{IsBracketing}
use Rattle.pm_brackets.proofs.Bracketed.{bracketing_exists}
use Rattle.pm_brackets.proofs.RingPlaces.{no_other, one_other, other_of}
use Rattle.pm_perm.specs.Cycles.{IsInCycle, repeated}
use Rattle.pm_map.specs.Structure.{Structure}
use Rattle.pm_tri.specs.declared.letters.TheConstants.{STEM}
use Rattle.pm_tri.specs.StemTree.{IsInOrder, contour, node_at}
use Rattle.pm_tri.specs.Whole.{IsAhead}
use Rattle.pm_tri.proofs.NodeTurns.{turn_keeps}
use Rattle.pm_tri.proofs.StemLetters.{stem_is_other}
use Rattle.pm_triclose.specs.Closure.{AreNumbers, AreTwins, Dart, FollowsPlace, IsBehind, a_to_b, at_place, b_to_a, from_bracket, from_stem, next_twin, no_more, twin_of}
use Rattle.pm_triclose.specs.WholeClosure.{FollowsWhole, IsWholeDart}
use Rattle.pm_triclose.proofs.AheadOrder.{IsStemRing}
use Rattle.pm_triclose.proofs.AheadStems.{one_ahead}
use Rattle.pm_triclose.proofs.SameClosures.{follows_found}
use Rattle.pm_triclose.proofs.WholeBrackets.{bracket_inside}
use Rattle.pm_triclose.proofs.WholePlane.{name, name_back, named, number_back}

-- the node of a dart: of a stem's twin that of the corner behind the side
abbrev pub node_of : List ℕ → (ℕ → ℕ) → Dart → ℕ
node_of places ends (at_place p) = node_at places p
node_of places ends (twin_of x) = node_at places (suc (ends x) % length places)
node_of places ends a_to_b = 0
node_of places ends b_to_a = 0

module _ (word : List ℕ) (order : IsInOrder word) (across ends : ℕ → ℕ) (w : IsStemRing (contour word) across ends) where
  bracketing : (other : List ℕ) × IsBracketing (contour word) other
  bracketing = bracketing_exists STEM stem_is_other word order.matched

  turned : (p q : ℕ) → AreBrackets (contour word) p q → node_at (contour word) (suc q % length (contour word)) ≡ node_at (contour word) p
  turned p q a =
      let l = bracket_inside (contour word) p q a in
      elim (other_of (contour word) bracketing.0 p bracketing.1 l) [
        | inl o ↦ absurd (no_other (contour word) p q o a)
        | inr c ↦
            let e = one_other (contour word) p q (slice_index bracketing.0 p) a c in
            ap (λ (k : ℕ). node_at (contour word) (suc k % length (contour word))) e ∙ turn_keeps word bracketing.0 p order.matched bracketing.1 l
      ]

  stem_turned : (p : ℕ) → p < length (contour word) → slice_index (contour word) p ≡ STEM → node_at (contour word) (suc p % length (contour word)) ≡ node_at (contour word) p
  stem_turned p l s =
      let e = bracketing.1.of_letter p l (λ o. omega (arith, o, s)) (λ c. omega (arith, c, s)) in
      ap (λ (k : ℕ). node_at (contour word) (suc k % length (contour word))) (sym e) ∙ turn_keeps word bracketing.0 p order.matched bracketing.1 l

  -- the twins of the stems that close at a side are at the node of the place behind it
  behind_node : (q bound : ℕ) (y : Dart) → IsBehind (λ (x : ℕ). IsAhead (contour word) x q) (at_place (suc q % length (contour word))) bound y
      → node_of (contour word) ends y ≡ node_at (contour word) (suc q % length (contour word))
  behind_node q bound y (next_twin z m a none e) =
      let same = one_ahead (contour word) z (ends z) q (w.closes z a.stem) a in
      ap (node_of (contour word) ends) e ∙ ap (λ (k : ℕ). node_at (contour word) (suc k % length (contour word))) same
  behind_node q bound y (no_more none e) = ap (node_of (contour word) ends) e

  place_node : (p : ℕ) (y : Dart) → p < length (contour word) → FollowsPlace (contour word) (IsAhead (contour word)) p y → node_of (contour word) ends y ≡ node_at (contour word) p
  place_node p y l (from_stem s e) = ap (node_of (contour word) ends) e ∙ stem_turned p l s
  place_node p y l (from_bracket q a f) = behind_node q (length (contour word)) y f ∙ turned p q a

  -- the next dart is at the same node
  follows_node : (x y : Dart) → IsWholeDart (contour word) x → FollowsWhole (contour word) x y → node_of (contour word) ends y ≡ node_of (contour word) ends x
  follows_node (at_place p) y h f = place_node p y h f
  follows_node (twin_of x) y h f =
      let same = one_ahead (contour word) x f.side (ends x) f.closes (w.closes x h) in
      behind_node f.side x y f.behind ∙ ap (λ (k : ℕ). node_at (contour word) (suc k % length (contour word))) same
  follows_node a_to_b y h f = absurd h
  follows_node b_to_a y h f = absurd h

  module _ (s : Structure) (number : Dart → ℕ) (n : AreNumbers (IsWholeDart (contour word)) (FollowsWhole (contour word)) (AreTwins (contour word)) s number) where
    pub node_of_dart : ℕ → ℕ
    node_of_dart d = node_of (contour word) ends (name (contour word) across ends w s number n d)

    pub node_of_name : (x : Dart) → IsWholeDart (contour word) x → node_of_dart (number x) ≡ node_of (contour word) ends x
    unfolding node_of_dart
    node_of_name x h = ap (node_of (contour word) ends) (name_back (contour word) across ends w s number n x h)

    record IsNextDart (d : ℕ) : Type 0 where
      within : s.next d < s.darts
      same : node_of_dart (s.next d) ≡ node_of_dart d

    next_dart : (d : ℕ) → d < s.darts → IsNextDart d
    unfolding node_of_dart
    next_dart d l =
        let x = name (contour word) across ends w s number n d in
        let h = named (contour word) across ends w s number n d l in
        let y = follows_found (contour word) across ends w x h in
        let back = number_back (contour word) across ends w s number n d l in
        let e : s.next d ≡ number y.dart = ap s.next (sym back) ∙ n.next x y.dart h y.holds in
        record {
          within = subst (λ (k : ℕ). k < s.darts) (sym e) (n.within y.dart y.is_named);
          same = ap (λ (k : ℕ). node_of (contour word) ends (name (contour word) across ends w s number n k)) e
              ∙ ap (node_of (contour word) ends) (name_back (contour word) across ends w s number n y.dart y.is_named) ∙ follows_node x y.dart h y.holds;
        }

    record IsMetDart (d e : ℕ) : Type 0 where
      within : e < s.darts
      same : node_of_dart e ≡ node_of_dart d

    met : (k d : ℕ) → d < s.darts → IsMetDart d (repeated s.next k d)
    met zero d l = record { within = l; same = refl }
    met (suc k) d l =
        let before = met k d l in
        let after = next_dart (repeated s.next k d) before.within in
        record { within = after.within; same = after.same ∙ before.same }

    -- the darts of a vertex are at one node
    pub vertex_node : (d e : ℕ) → d < s.darts → IsInCycle s.next d e → node_of_dart e ≡ node_of_dart d
    vertex_node d e l c = ap node_of_dart (sym c.leads) ∙ (met c.steps d l).same
