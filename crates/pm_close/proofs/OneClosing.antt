-- There is one answer to a tree that is to be closed.
use Rattle.std.proofs.Common.{◌≡◌, ℕ, ◌<◌, List, length, Ok, Err, refl, sym, ap, ◌∙◌, subst, inl, inr, arith}
use Rattle.std.specs.Prelude.{slice_index}
use Rattle.std.proofs.lemmas.Bool.{cases_eq}
use Rattle.std.proofs.lemmas.Grind.{same_number_lists}
use Rattle.pm_perm.proofs.Permutations.{IsReached, reached}
use Rattle.pm_trees.specs.Blossoming.{IsBlossoming}
use Rattle.pm_trees.specs.Word.{contour}
use Rattle.pm_map.specs.EdgeNumbers.{dart_of}
use Rattle.pm_map.specs.Rotation.{RotationSystem}
use Rattle.pm_map.proofs.NumberedEdges.{dart_of-same}
use Rattle.pm_close.specs.declared.closing.Closed.{Closed}
use Rattle.pm_close.specs.declared.closing.CloseRefusal.TheVariants.{Memory, NotBalanced}
use Rattle.pm_close.specs.Closing.{ClosesTo, ClosingHasOneAnswer}
use Rattle.pm_close.specs.Level.{IsLevel}
use Rattle.pm_close.proofs.OneClosure.{HasAcross, closures_twins}
use Rattle.pm_close.proofs.RootedClosure.{has_across, one_closure}
use Rattle.pm_close.proofs.TwinLemmas.{twin_within}

-- a place has one level
pub one_level : (places : List ℕ) (p one other : ℕ) → IsLevel places p one → IsLevel places p other → one ≡ other
one_level places p one other a b = elim (cases_eq p 0) [
  | inl first ↦ a.plant first ∙ sym (b.plant first)
  | inr later ↦ let positive : 0 < p = omega (arith, later) in omega (arith, a.other positive, b.other positive)
]

same_closed : (a b : Closed) → a.map ≡ b.map → a.levels ≡ b.levels → a ≡ b
same_closed a b m l = ap (λ (map : RotationSystem). made map a.levels) m ∙ ap (made b.map) l where
  made : RotationSystem → List ℕ → Closed
  made map levels = record { map = map; levels = levels }

-- a contour has one list of levels
one_list : (places : List ℕ) (a b : Closed) → HasAcross places → (one : ClosesTo places a) → (two : ClosesTo places b) → a.levels ≡ b.levels
one_list places a b h one two = same_number_lists a.levels b.levels (omega (arith, one.levels.as_long, two.levels.as_long)) entry where
  entry : (d : ℕ) → d < length a.levels → slice_index a.levels d ≡ slice_index b.levels d
  entry d l =
      let s = one.is_closed.closure in
      let t = two.is_closed.closure in
      let r : IsReached (dart_of s.twin) s.darts d = reached (dart_of s.twin) s.darts d one.is_closed.carries.renumbers (omega (arith, one.levels.as_long, one.is_closed.is_closure.darts)) in
      let below : r.from < length places = omega (arith, one.is_closed.is_closure.darts, r.below) in
      let twins : (p : ℕ) → p < length places → s.twin p ≡ t.twin p = closures_twins places s t h one.is_closed.is_closure two.is_closed.is_closure in
      let also : dart_of s.twin r.from ≡ dart_of t.twin r.from = dart_of-same s.twin t.twin (length places) r.from twins below (twin_within places r.from (s.twin r.from) (one.is_closed.is_closure.twins r.from below)) in
      one_level places r.from (slice_index a.levels d) (slice_index b.levels d)
      (subst (λ (e : ℕ). IsLevel places r.from (slice_index a.levels e)) r.value (one.levels.each r.from below))
      (subst (λ (e : ℕ). IsLevel places r.from (slice_index b.levels e)) (sym also ∙ r.value) (two.levels.each r.from below))

-- a tree closes to one map with one list of levels
closed_once : (word : List ℕ) (a b : Closed) → IsBlossoming word → ClosesTo (contour word) a → ClosesTo (contour word) b → a ≡ b
closed_once word a b tree one two =
    same_closed a b (one_closure word a.map b.map tree one.is_closed two.is_closed) (one_list (contour word) a b (has_across word tree) one two)

pub closes_once : ClosingHasOneAnswer
closes_once word (Ok a) (Ok b) tree x y n m = ap Ok (closed_once word a b tree x y)
closes_once word (Ok a) (Err (NotBalanced bud)) tree x y n m = absurd (x.balanced.alone bud y)
closes_once word (Ok a) (Err Memory) tree x y n m = absurd (m refl)
closes_once word (Err (NotBalanced bud)) (Ok b) tree x y n m = absurd (y.balanced.alone bud x)
closes_once word (Err (NotBalanced bud)) (Err (NotBalanced other)) tree x y n m = ap (λ (k : ℕ). Err (NotBalanced k)) ((has_across word tree).one.bud_of bud other 0 x y)
closes_once word (Err (NotBalanced bud)) (Err Memory) tree x y n m = absurd (m refl)
closes_once word (Err Memory) second tree x y n m = absurd (n refl)
