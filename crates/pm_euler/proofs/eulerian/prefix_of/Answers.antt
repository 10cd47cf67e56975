use Rattle.std.proofs.Common.{◌≡◌, ℕ, ◌-◌, ◌<◌, ◌++◌, List, length, drop, take, slice_index, slice_index_or, ap, ap₂, subst, sym, ◌∙◌, arith}
use Rattle.pm_lehmer.specs.Lehmer.{code_of}
use Rattle.pm_words.specs.Word.{turned}
use Rattle.pm_objects.specs.Codes.{AreObjectsOf}
use Rattle.pm_planting.specs.Kinds.{halves_in}
use Rattle.pm_planting.specs.declared.kind.Kind.{Kind}
use Rattle.pm_planting.specs.declared.kind.Kind.TheVariants.{Leaf}
use Rattle.pm_euler.specs.Objects.{ranges_of}
use Rattle.pm_euler.proofs.EulerianMade.{prefix_read, objects_owed, objects_total, objects_turned, objects_within, start_within}
use Rattle.pm_euler.proofs.eulerian.prefix_of.Goals as goal

pub objects_of_codes-requires : goal.objects_of_codes-requires
objects_of_codes-requires c =
    let o = objects_owed c.args.size.now c.in_ok-kinds.kinds.items c.args.tree.now c.args.rest.now c.requires.size c.requires.made c.in_ok-kinds.ensures c.deref-2.result.now c.deref-3.result.now
    (c.deref-2.ensures.value ∙ c.in_ok-ranges.ensures) (c.deref-3.ensures.value ∙ c.in_ok-halves.ensures ∙ ap halves_in c.deref.ensures.value) in
    record { apart = o.apart; nodes = o.nodes; as_long = o.as_long; few = o.few; some = o.some }

read_again : (ranges others : List (ℕ × ℕ)) (halves more codes objects : List ℕ) → ranges ≡ others → halves ≡ more → AreObjectsOf ranges halves codes objects → AreObjectsOf others more codes objects
read_again ranges others halves more codes objects r h read = subst (λ (rs : List (ℕ × ℕ)). AreObjectsOf rs more codes objects) r (subst (λ (hs : List ℕ). AreObjectsOf ranges hs codes objects) h read)

pub ranks_by_object-requires-clause-nodes : goal.ranks_by_object-requires-clause-nodes
ranks_by_object-requires-clause-nodes c = λ k half rank less e.
    let read = read_again c.deref-2.result.now (ranges_of c.args.size.now) c.deref-3.result.now (halves_in c.in_ok-kinds.kinds.items) (take (length c.args.rest.now - 1) (drop 1 c.args.rest.now)) c.in_ok-objects.objects.items
    (c.deref-2.ensures.value ∙ c.in_ok-ranges.ensures) (c.deref-3.ensures.value ∙ c.in_ok-halves.ensures ∙ ap halves_in c.deref.ensures.value) c.in_ok-objects.ensures in
    let within = objects_within c.args.size.now c.in_ok-kinds.kinds.items c.args.tree.now c.args.rest.now c.requires.size c.requires.made c.in_ok-kinds.ensures c.in_ok-objects.objects.items read k half rank
    (subst (λ (ks : List Kind). k < length ks) c.deref-4.ensures.value less) (ap (λ (ks : List Kind). slice_index_or ks k Leaf) (sym c.deref-4.ensures.value) ∙ e) in
    omega (arith, within, ap (λ (os : List ℕ). slice_index os k) c.deref-5.ensures.value, c.nodes_of.ensures.nodes)

pub turned_back-requires-clause-start : goal.turned_back-requires-clause-start
turned_back-requires-clause-start c =
    let read = read_again c.deref-2.result.now (ranges_of c.args.size.now) c.deref-3.result.now (halves_in c.in_ok-kinds.kinds.items) (take (length c.args.rest.now - 1) (drop 1 c.args.rest.now)) c.in_ok-objects.objects.items
    (c.deref-2.ensures.value ∙ c.in_ok-ranges.ensures) (c.deref-3.ensures.value ∙ c.in_ok-halves.ensures ∙ ap halves_in c.deref.ensures.value) c.in_ok-objects.ensures in
    omega (arith, start_within c.args.size.now c.in_ok-kinds.kinds.items c.args.tree.now c.args.rest.now c.requires.size c.requires.made c.in_ok-kinds.ensures c.in_ok-objects.objects.items read, ap length c.deref-6.ensures.value)

pub turned_back-requires-clause-few : goal.turned_back-requires-clause-few
turned_back-requires-clause-few c =
    let read = read_again c.deref-2.result.now (ranges_of c.args.size.now) c.deref-3.result.now (halves_in c.in_ok-kinds.kinds.items) (take (length c.args.rest.now - 1) (drop 1 c.args.rest.now)) c.in_ok-objects.objects.items
    (c.deref-2.ensures.value ∙ c.in_ok-ranges.ensures) (c.deref-3.ensures.value ∙ c.in_ok-halves.ensures ∙ ap halves_in c.deref.ensures.value) c.in_ok-objects.ensures in
    let few = c.requires.size.few in
    omega (arith, few, objects_total c.args.size.now c.in_ok-kinds.kinds.items c.args.tree.now c.args.rest.now c.requires.size c.requires.made c.in_ok-kinds.ensures c.in_ok-objects.objects.items read, ap length c.deref-6.ensures.value)

pub code-requires : goal.code-requires
code-requires c =
    let read = read_again c.deref-2.result.now (ranges_of c.args.size.now) c.deref-3.result.now (halves_in c.in_ok-kinds.kinds.items) (take (length c.args.rest.now - 1) (drop 1 c.args.rest.now)) c.in_ok-objects.objects.items
    (c.deref-2.ensures.value ∙ c.in_ok-ranges.ensures) (c.deref-3.ensures.value ∙ c.in_ok-halves.ensures ∙ ap halves_in c.deref.ensures.value) c.in_ok-objects.ensures in
    let few = c.requires.size.few in
    let long = objects_turned c.args.size.now c.in_ok-kinds.kinds.items c.args.tree.now c.args.rest.now c.requires.size c.requires.made c.in_ok-kinds.ensures c.in_ok-objects.objects.items read in
    let same = ap (λ (os : List ℕ). length (turned (length os - slice_index c.args.rest.now 0) os)) c.deref-6.ensures.value in
    omega (arith, few, long, same, ap length c.in_ok-arrangement.ensures, ap length c.deref-7.ensures.value)

pub returns : goal.returns
returns c =
    let kinds : List Kind = c.in_ok-kinds.kinds.items in
    let objects : List ℕ = c.in_ok-objects.objects.items in
    let read = read_again c.deref-2.result.now (ranges_of c.args.size.now) c.deref-3.result.now (halves_in c.in_ok-kinds.kinds.items) (take (length c.args.rest.now - 1) (drop 1 c.args.rest.now)) c.in_ok-objects.objects.items
    (c.deref-2.ensures.value ∙ c.in_ok-ranges.ensures) (c.deref-3.ensures.value ∙ c.in_ok-halves.ensures ∙ ap halves_in c.deref.ensures.value) c.in_ok-objects.ensures in
    let code_is = c.in_ok-prefix.ensures.code ∙ ap code_of (c.deref-7.ensures.value ∙ c.in_ok-arrangement.ensures ∙ ap (λ (os : List ℕ). turned (length os - slice_index c.args.rest.now 0) os) c.deref-6.ensures.value) in
    prefix_read c.args.size.now c.in_ok-kinds.kinds.items c.args.tree.now c.args.rest.now c.requires.size c.requires.made c.in_ok-kinds.ensures c.in_ok-objects.objects.items read c.in_ok-ranks.ranks.items c.extend_from_slice.new.self.items
    (c.in_ok-ranks.ensures.as_many ∙ c.nodes_of.ensures.nodes)
    (λ k half rank less e.
    ap (λ (os : List ℕ). slice_index c.in_ok-ranks.ranks.items (slice_index os k)) (sym c.deref-5.ensures.value)
    ∙ c.in_ok-ranks.ensures.ranked k half rank (subst (λ (ks : List Kind). k < length ks) (sym c.deref-4.ensures.value) less) (ap (λ (ks : List Kind). slice_index_or ks k Leaf) c.deref-4.ensures.value ∙ e))
    (c.in_ok-extend_from_slice.ensures.items ∙ ap₂ (λ (xs ys : List ℕ). xs ++ ys) code_is c.deref-8.ensures.value)
