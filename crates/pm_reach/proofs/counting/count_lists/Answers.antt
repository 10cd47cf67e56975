use Rattle.std.proofs.Common.{ℕ, ◌≤◌, ◌++◌, true, List, length, take, drop, replicate, subst, sym, ap, ◌∙◌, arith}
use Rattle.pm_map.specs.Rotation.{RotationSystem}
use Rattle.pm_reach.specs.declared.lists.TheConstants.{MOST_LISTS}
use Rattle.pm_reach.specs.Census.{IsLastList, IsNextList, product}
use Rattle.pm_reach.specs.steps.Counting.{IsCounting}
use Rattle.pm_reach.proofs.CountedLists.{IsCounting-begins, IsCounting-few, IsCounting-more, lists_left-smaller, written_over}
use Rattle.pm_reach.proofs.counting.count_lists.Goals as goal

pub lists-init : goal.lists-init
lists-init g c =
    let bounds : List ℕ = c.args.bounds.now in
    let samples : List ℕ → RotationSystem → List ℕ → Type 0 = g.C.MapClass.samples c.args.size.now in
    subst (λ list. IsCounting bounds samples true list c.new-numbers.result.entries) (sym (c.in_ok-choices.ensures.items_if_clones_equal (λ _ is. is)))
    (subst (IsCounting bounds samples true (replicate (length bounds) 0)) (sym c.new-numbers.ensures.empty)
    (IsCounting-begins bounds samples c.requires.some))

pub count_map-requires : goal.count_map-requires
count_map-requires g c =
    let samples : List ℕ → RotationSystem → List ℕ → Type 0 = g.C.MapClass.samples c.args.size.now in
    let counting : IsCounting c.args.bounds.now samples true c.lists.choices.items c.lists.numbers.entries =
    subst (λ more. IsCounting c.args.bounds.now samples more c.lists.choices.items c.lists.numbers.entries) c.lists-test.true c.lists.invariant in
    let few : product c.args.bounds.now ≤ MOST_LISTS = c.requires.few in
    omega (arith, few, IsCounting-few c.args.bounds.now samples c.lists.choices.items c.lists.numbers.entries c.in_ok-sample.sample.map counting)

pub lists-smaller : goal.lists-smaller
lists-smaller g c =
    let old : List ℕ = c.lists.choices.items in
    let next : List ℕ = c.next_list-more.new.values in
    let written = written_over next old c.lists.choices.len (c.next_list-more.ensures.size ∙ ap length c.deref_mut.ensures.value) c.lists.choices.ok.0 in
    lists_left-smaller c.args.bounds.now old next (take c.lists.choices.len (next ++ drop (length next) old)) c.lists.more c.next_list-more.result c.requires.some
    (c.lists.invariant.valid c.lists-test.true) c.lists-test.true written
    (λ is. subst (λ list. IsNextList c.args.bounds.now list next) c.deref_mut.ensures.value (c.next_list-more.ensures.next is))
    (λ is. subst (IsLastList c.args.bounds.now) c.deref_mut.ensures.value (c.next_list-more.ensures.last is))

pub lists-preserved : goal.lists-preserved
lists-preserved g c =
    let bounds : List ℕ = c.args.bounds.now in
    let samples : List ℕ → RotationSystem → List ℕ → Type 0 = g.C.MapClass.samples c.args.size.now in
    let old : List ℕ = c.lists.choices.items in
    let next : List ℕ = c.next_list-more.new.values in
    let written = written_over next old c.lists.choices.len (c.next_list-more.ensures.size ∙ ap length c.deref_mut.ensures.value) c.lists.choices.ok.0 in
    let counting : IsCounting bounds samples true old c.lists.numbers.entries =
    subst (λ more. IsCounting bounds samples more old c.lists.numbers.entries) c.lists-test.true c.lists.invariant in
    subst (λ list. IsCounting bounds samples c.next_list-more.result list c.count_map.new.numbers.entries) (sym written)
    (subst (IsCounting bounds samples c.next_list-more.result next) (sym c.in_ok-count_map.ensures)
    (IsCounting-more bounds samples old next c.next_list-more.result c.lists.numbers.entries c.in_ok-sample.sample.map c.in_ok-sample.sample.residue c.requires.some counting
    (subst (λ list. samples list c.in_ok-sample.sample.map c.in_ok-sample.sample.residue) c.deref.ensures.value c.in_ok-sample.ensures.given)
    (λ is. subst (λ list. IsNextList bounds list next) c.deref_mut.ensures.value (c.next_list-more.ensures.next is))
    (λ is. subst (IsLastList bounds) c.deref_mut.ensures.value (c.next_list-more.ensures.last is))))
