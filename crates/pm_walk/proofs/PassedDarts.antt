-- The steps of the walk along the darts of a map, as the code takes them.
use Rattle.std.proofs.Common.{◌≡◌, ◌≢◌, ℕ, suc, ◌*◌, ◌/◌, ◌%◌, ◌<◌, ◌≤◌, inl, inr, Bool, true, false, cond, ltb, List, length, set, refl, sym, ap, ◌∙◌, arith}
use Rattle.std.proofs.Math.Nat.{mod-eq_of_lt}
use Rattle.std.specs.Prelude.{slice_index, slice_index_or}
use Rattle.std.proofs.lemmas.Bool.{cases_Bool, cases_lt, cases_eq, cond-true, cond-false, lt-ltb, le-ltb}
use Rattle.std.proofs.lemmas.List.{get_or-set_other}
use Rattle.std.proofs.lemmas.Grind.{get_or-set_at}
use Rattle.pm_map.specs.Structure.{Structure, IsStructure, CarriesTo}
use Rattle.pm_map.specs.Rotation.{RotationSystem, structure_of, twin}
use Rattle.pm_map.proofs.TwinLemmas.{one_edge, edge_of_twin}
use Rattle.pm_walk.specs.declared.passing.DartKind.{DartKind}
use Rattle.pm_walk.specs.declared.passing.DartKind.TheVariants.{CutFirst, CutAgain, KeptFirst, KeptAgain}
use Rattle.pm_walk.specs.declared.passing.Fate.{Fate}
use Rattle.pm_walk.specs.declared.passing.Fate.TheVariants.{Unmet, Cut, Kept}
use Rattle.pm_walk.specs.declared.passing.Step.{Step}
use Rattle.pm_walk.specs.Passing.{IsPassed, cuts, keeps, meets_cut, meets_kept}
use Rattle.pm_walk.specs.Walk.{first_of, is_cut, across, IsWalkedInOrder}
use Rattle.pm_walk.proofs.Edges.{first_is_twin, first_is_own, first_is, first_below, first_below_twin, cut_twin, cut_is_out, across_cut, across_kept}

-- the darts of a structure have places in order along its walk, and each place has the test of its dart
pub record HasPlaces (s : Structure) (out : ℕ → Bool) : Type 0 where
  pub walked : Structure
  pub passes : ℕ → Bool
  pub rename : ℕ → ℕ
  pub carries : CarriesTo rename s walked
  pub structure : IsStructure walked
  pub in_order : IsWalkedInOrder walked passes
  pub same : (d : ℕ) → d < s.darts → passes (rename d) ≡ out d

-- the kind of a dart on an edge that is cut or not, and that is met first or again
abbrev pub kind_by : Bool → Bool → DartKind
kind_by cut first = cond cut (cond first CutFirst CutAgain) (cond first KeptFirst KeptAgain)

-- the kind of a dart, where darts are numbered along the walk
abbrev pub kind_of : Structure → (ℕ → Bool) → ℕ → DartKind
kind_of s out d = kind_by (is_cut s out d) (ltb d (s.twin d))

kind_first : (s : Structure) (out : ℕ → Bool) (d : ℕ) (cut : Bool) → is_cut s out d ≡ cut → d < s.twin d → kind_of s out d ≡ kind_by cut true
kind_first s out d cut is less = ap (λ (b : Bool). kind_by b (ltb d (s.twin d))) is ∙ ap (λ (b : Bool). kind_by cut b) (lt-ltb d (s.twin d) less)

kind_again : (s : Structure) (out : ℕ → Bool) (d : ℕ) (cut : Bool) → is_cut s out d ≡ cut → s.twin d < d → kind_of s out d ≡ kind_by cut false
kind_again s out d cut is less = ap (λ (b : Bool). kind_by b (ltb d (s.twin d))) is ∙ ap (λ (b : Bool). kind_by cut b) (le-ltb d (s.twin d) (omega (arith, less)))

-- what is done with an edge where the walk meets it first
abbrev pub settled : Bool → Fate
settled true = Cut
settled false = Kept

settled_differs : (b : Bool) → settled b ≡ Unmet → ⊥
settled_differs true e = cc
settled_differs false e = cc

settled_same : (a b : Bool) → settled a ≡ settled b → a ≡ b
settled_same true true e = refl
settled_same false false e = refl
settled_same true false e = cc
settled_same false true e = cc

-- the edge of a dart is one of half as many
edge_inside : (d n size : ℕ) → d < n → 2 * size ≡ n → d / 2 < size
edge_inside d n size l e = omega arith

-- The walk has passed the darts of the places below this one, and is at the dart of this place: edges that it met are cut
-- or kept, and others aren't met.
pub record ArePassed (map : RotationSystem) (out : ℕ → Bool) (w : HasPlaces (structure_of map) out) (place dart : ℕ) (fates : List Fate) : Type 0 where
  pub here : w.rename dart ≡ place % length map.sigma
  pub met : (d : ℕ) → d < length map.sigma → first_of w.walked (w.rename d) < place
      → slice_index_or fates (d / 2) Unmet ≡ settled (is_cut w.walked w.passes (w.rename d))
  pub unmet : (d : ℕ) → d < length map.sigma → place ≤ first_of w.walked (w.rename d) → slice_index_or fates (d / 2) Unmet ≡ Unmet

-- how the walk passes the dart of a place
pub record IsStep (map : RotationSystem) (out : ℕ → Bool) (w : HasPlaces (structure_of map) out) (place dart : ℕ) (before after : List Fate) (step : Step) : Type 0 where
  pub edge : (d : ℕ) → d / 2 ≡ dart / 2 → slice_index_or after (d / 2) Unmet ≡ settled (is_cut w.walked w.passes place)
  pub others : (d : ℕ) → d / 2 ≢ dart / 2 → slice_index_or after (d / 2) Unmet ≡ slice_index_or before (d / 2) Unmet
  pub kind : step.kind ≡ kind_of w.walked w.passes place
  pub next : step.next ≡ slice_index map.sigma (cond (is_cut w.walked w.passes place) dart (twin dart))

module _ (map : RotationSystem) (out : ℕ → Bool) (structure : IsStructure (structure_of map)) (w : HasPlaces (structure_of map) out) where
  -- an edge that isn't met yet is met first at this place, and another one was met at the place of the twin
  module _ (place dart : ℕ) (fates : List Fate) (l : place < length map.sigma) (inside : dart < length map.sigma) (passed : ArePassed map out w place dart fates) where
    at : w.rename dart ≡ place
    at = passed.here ∙ mod-eq_of_lt l

    walked_inside : place < w.walked.darts
    walked_inside = omega (arith, w.carries.darts)

    twin_of_place : w.walked.twin place ≡ w.rename (twin dart)
    twin_of_place = ap w.walked.twin (sym at) ∙ sym (w.carries.twin dart inside)

    first_here : slice_index_or fates (dart / 2) Unmet ≡ Unmet → place < w.walked.twin place
    first_here unmet = elim (cases_lt (w.walked.twin place) place) [
      | inl less ↦
          let first : first_of w.walked (w.rename dart) < place = omega (arith, ap (first_of w.walked) at, first_is_twin w.walked place less) in
          absurd (settled_differs (is_cut w.walked w.passes (w.rename dart)) (sym (passed.met dart inside first) ∙ unmet))
      | inr more ↦ omega (arith, w.structure.twin_other place walked_inside)
    ]

    cut_here : place < w.walked.twin place → is_cut w.walked w.passes place ≡ out dart
    cut_here less =
        cut_is_out w.walked w.passes place (omega arith) ∙ ap w.passes (sym at) ∙ w.same dart inside

    met_before : (b : Bool) → slice_index_or fates (dart / 2) Unmet ≡ settled b → (w.walked.twin place < place) × (is_cut w.walked w.passes place ≡ b)
    met_before b is = elim (cases_lt (w.walked.twin place) place) [
      | inl less ↦
          let first : first_of w.walked (w.rename dart) < place = omega (arith, ap (first_of w.walked) at, first_is_twin w.walked place less) in
          (less, ap (is_cut w.walked w.passes) (sym at) ∙ settled_same (is_cut w.walked w.passes (w.rename dart)) b (sym (passed.met dart inside first) ∙ is))
      | inr more ↦
          let first : place ≤ first_of w.walked (w.rename dart) = omega (arith, ap (first_of w.walked) at, first_is_own w.walked place more) in
          absurd (settled_differs b (sym is ∙ passed.unmet dart inside first))
    ]

    written_here : (fate : Fate) (after : List Fate) → after ≡ set fates (dart / 2) fate → dart / 2 < length fates → slice_index_or after (dart / 2) Unmet ≡ fate
    written_here fate after written l = ap (λ (xs : List Fate). slice_index_or xs (dart / 2) Unmet) written ∙ get_or-set_at fates (dart / 2) (dart / 2) fate Unmet refl l

    written_else : (fate : Fate) (after : List Fate) → after ≡ set fates (dart / 2) fate → (e : ℕ) → e ≢ dart / 2 → slice_index_or after e Unmet ≡ slice_index_or fates e Unmet
    written_else fate after written e apart = ap (λ (xs : List Fate). slice_index_or xs e Unmet) written ∙ get_or-set_other fates (dart / 2) e fate Unmet apart

    step_of : (cut : Bool) (after : List Fate) (step : Step) → is_cut w.walked w.passes place ≡ cut → slice_index_or after (dart / 2) Unmet ≡ settled cut
        → ((e : ℕ) → e ≢ dart / 2 → slice_index_or after e Unmet ≡ slice_index_or fates e Unmet) → step.kind ≡ kind_of w.walked w.passes place
        → step.next ≡ slice_index map.sigma (cond cut dart (twin dart)) → IsStep map out w place dart fates after step
    step_of cut after step is edge others kind next = record {
      edge = λ d same. ap (λ (e : ℕ). slice_index_or after e Unmet) same ∙ edge ∙ ap settled (sym is);
      others = λ d apart. others (d / 2) apart;
      kind = kind;
      next = next ∙ ap (λ (b : Bool). slice_index map.sigma (cond b dart (twin dart))) (sym is);
    }

    -- what it does at the dart of this place
    pub stepped : (after : List Fate) (step : Step) → 2 * length fates ≡ length map.sigma → IsPassed map dart (out dart) fates after step → IsStep map out w place dart fates after step
    stepped after step size (cuts unmet passes written kind next) =
        let less : place < w.walked.twin place = first_here unmet in
        let cut : is_cut w.walked w.passes place ≡ true = cut_here less ∙ passes in
        step_of true after step cut (written_here Cut after written (edge_inside dart (length map.sigma) (length fates) inside size)) (written_else Cut after written)
        (kind ∙ sym (kind_first w.walked w.passes place true cut less)) next
    stepped after step size (keeps unmet passes_not written kind next) =
        let less : place < w.walked.twin place = first_here unmet in
        let kept : is_cut w.walked w.passes place ≡ false = cut_here less ∙ passes_not in
        step_of false after step kept (written_here Kept after written (edge_inside dart (length map.sigma) (length fates) inside size)) (written_else Kept after written)
        (kind ∙ sym (kind_first w.walked w.passes place false kept less)) next
    stepped after step size (meets_cut was same kind next) =
        let met = met_before true was in
        step_of true after step met.1 (ap (λ (xs : List Fate). slice_index_or xs (dart / 2) Unmet) same ∙ was) (λ e _. ap (λ (xs : List Fate). slice_index_or xs e Unmet) same)
        (kind ∙ sym (kind_again w.walked w.passes place true met.1 met.0)) next
    stepped after step size (meets_kept was same kind next) =
        let met = met_before false was in
        step_of false after step met.1 (ap (λ (xs : List Fate). slice_index_or xs (dart / 2) Unmet) same ∙ was) (λ e _. ap (λ (xs : List Fate). slice_index_or xs e Unmet) same)
        (kind ∙ sym (kind_again w.walked w.passes place false met.1 met.0)) next

    -- the walk goes on to the dart of the next place
    next_place : (after : List Fate) (step : Step) → IsStep map out w place dart fates after step → w.rename step.next ≡ suc place % length map.sigma
    next_place after step goes =
        let onward : w.walked.next (across w.walked w.passes place) ≡ suc place % length map.sigma =
        w.in_order.onward place walked_inside ∙ ap (λ (n : ℕ). suc place % n) (sym w.carries.darts) in
        elim (cases_Bool (is_cut w.walked w.passes place)) [
          | inl cut ↦
              let to : step.next ≡ slice_index map.sigma dart = goes.next ∙ ap (slice_index map.sigma) (cond-true _ dart (twin dart) cut) in
              ap w.rename to ∙ w.carries.next dart inside ∙ ap w.walked.next (at ∙ sym (across_cut w.walked w.passes place cut)) ∙ onward
          | inr kept ↦
              let to : step.next ≡ slice_index map.sigma (twin dart) = goes.next ∙ ap (slice_index map.sigma) (cond-false _ dart (twin dart) kept) in
              ap w.rename to ∙ w.carries.next (twin dart) (structure.twin_stays dart inside)
              ∙ ap w.walked.next (sym twin_of_place ∙ sym (across_kept w.walked w.passes place kept)) ∙ onward
        ]

    -- on the edge of this place the dart that is met first is met by now
    edge_met : (d : ℕ) → d / 2 ≡ dart / 2 → (first_of w.walked (w.rename d) ≤ place) × (is_cut w.walked w.passes (w.rename d) ≡ is_cut w.walked w.passes place)
    edge_met d same = elim (one_edge d dart same) [
      | inl one ↦
          let there : w.rename d ≡ place = ap w.rename one ∙ at in
          (omega (arith, ap (first_of w.walked) there, first_below w.walked place), ap (is_cut w.walked w.passes) there)
      | inr other ↦
          let there : w.rename d ≡ w.walked.twin place = ap w.rename other ∙ sym twin_of_place in (
            omega (arith, ap (first_of w.walked) there, first_below_twin w.walked (w.walked.twin place), w.structure.twin_back place walked_inside),
            ap (is_cut w.walked w.passes) there ∙ cut_twin w.walked w.passes place w.structure walked_inside,
          )
    ]

    -- on the other edges it isn't met at this place
    other_edge : (d : ℕ) → d < length map.sigma → d / 2 ≢ dart / 2 → first_of w.walked (w.rename d) ≢ place
    other_edge d l apart e = elim (first_is w.walked (w.rename d)) [
      | inl own ↦
          let one : d ≡ dart = w.carries.renumbers.injective d dart l inside (sym own ∙ e ∙ sym at) in
          apart (ap (λ (x : ℕ). x / 2) one)
      | inr there ↦
          let one : twin d ≡ dart = w.carries.renumbers.injective (twin d) dart (structure.twin_stays d l) inside (w.carries.twin d l ∙ sym there ∙ e ∙ sym at) in
          apart (sym (edge_of_twin d) ∙ ap (λ (x : ℕ). x / 2) one)
    ]

    pub passed_more : (after : List Fate) (step : Step) → IsStep map out w place dart fates after step → ArePassed map out w (suc place) step.next after
    passed_more after step goes = record {
      here = next_place after step goes;
      met = λ d l before. elim (cases_eq (d / 2) (dart / 2)) [
        | inl same ↦ goes.edge d same ∙ ap settled (sym (edge_met d same).1)
        | inr apart ↦
            let other = other_edge d l apart in
            goes.others d apart ∙ passed.met d l (omega (arith, before, other))
      ];
      unmet = λ d l beyond. elim (cases_eq (d / 2) (dart / 2)) [
        | inl same ↦ absurd (omega (arith, beyond, (edge_met d same).0))
        | inr apart ↦ goes.others d apart ∙ passed.unmet d l (omega (arith, beyond))
      ];
    }
