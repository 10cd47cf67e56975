use Rattle.std.proofs.Common.{◌≡◌, ◌+◌, suc, List, All, length, ap, subst, sym, ◌∙◌, arith, rules}
use Rattle.pm_trees.specs.Pairs.{edges_of}
use Rattle.pm_words.specs.Word.{IsGood}
use Rattle.pm_planting.specs.Kinds.{IsKind, IsWordOfKinds, letters_in}
use Rattle.pm_planting.specs.declared.kind.Kind.{Kind}
use Rattle.pm_euler.proofs.EulerianMade.{code_long, code_valid, code_within, prefix_parts, kinds_are, made_preorder, plantable, preordered_of, ranks_are}
use Rattle.pm_euler.proofs.eulerian.make.Goals as goal

pub slice_bounds-preorder_of-end : goal.slice_bounds-preorder_of-end
slice_bounds-preorder_of-end c =
    let objects : c.edges.result + 1 ≡ suc (edges_of c.args.size.now) = (let e = c.edges.ensures.edges in omega (arith, e)) in
    objects ∙ sym (code_long c.args.size.now c.args.prefix.now (c.edges.result + 1) c.requires.valid objects)

pub preorder_of-requires-clause-profile : goal.preorder_of-requires-clause-profile
preorder_of-requires-clause-profile c =
    let objects : c.edges.result + 1 ≡ suc (edges_of c.args.size.now) = (let e = c.edges.ensures.edges in omega (arith, e)) in
    (c.args.size.now, c.requires.size, c.deref.ensures.value ∙ c.in_ok-halves.ensures.halves, code_long c.args.size.now c.args.prefix.now (c.edges.result + 1) c.requires.valid objects)

pub preorder_of-requires-clause-is_code : goal.preorder_of-requires-clause-is_code
preorder_of-requires-clause-is_code c =
    let objects : c.edges.result + 1 ≡ suc (edges_of c.args.size.now) = (let e = c.edges.ensures.edges in omega (arith, e)) in
    code_valid c.args.size.now c.args.prefix.now (c.edges.result + 1) c.requires.valid objects

pub slice_bounds-kinds_of-count : goal.slice_bounds-kinds_of-count
slice_bounds-kinds_of-count c =
    let objects : c.edges.result + 1 ≡ suc (edges_of c.args.size.now) = (let e = c.edges.ensures.edges in omega (arith, e)) in
    code_within c.args.size.now c.args.prefix.now (c.edges.result + 1) c.requires.valid objects

pub slice_bounds-kinds_of-start : goal.slice_bounds-kinds_of-start
slice_bounds-kinds_of-start c =
    let objects : c.edges.result + 1 ≡ suc (edges_of c.args.size.now) = (let e = c.edges.ensures.edges in omega (arith, e)) in
    let within = code_within c.args.size.now c.args.prefix.now (c.edges.result + 1) c.requires.valid objects in
    search rules

pub kinds_of-requires-clause-ranked : goal.kinds_of-requires-clause-ranked
kinds_of-requires-clause-ranked c =
    let objects : c.edges.result + 1 ≡ suc (edges_of c.args.size.now) = (let e = c.edges.ensures.edges in omega (arith, e)) in
    ap length (ranks_are c.args.size.now c.args.prefix.now (c.edges.result + 1) c.requires.valid objects) ∙ (prefix_parts c.args.size.now c.args.prefix.now c.requires.valid).ranks_long ∙ sym (ap length (c.deref-2.ensures.value ∙ c.in_ok-halves.ensures.halves))

pub plant_plane-requires : goal.plant_plane-requires
plant_plane-requires c =
    let objects : c.edges.result + 1 ≡ suc (edges_of c.args.size.now) = (let e = c.edges.ensures.edges in omega (arith, e)) in
    let p = plantable c.args.size.now c.args.prefix.now c.in_ok-preorder.preorder.start c.in_ok-preorder.preorder.objects.items c.requires.size c.requires.valid
    (preordered_of c.args.size.now c.args.prefix.now (c.edges.result + 1) c.requires.valid objects c.deref.result.now c.in_ok-preorder.preorder.start c.in_ok-preorder.preorder.objects.items
    (c.deref.ensures.value ∙ c.in_ok-halves.ensures.halves) c.in_ok-preorder.ensures) in
    let kinds = kinds_are c.args.size.now c.args.prefix.now (c.edges.result + 1) c.requires.valid objects c.deref-4.result.now c.deref-2.result.now c.in_ok-preorder.preorder.objects.items c.deref-3.result.now
    (c.deref-2.ensures.value ∙ c.in_ok-halves.ensures.halves) c.deref-3.ensures.value (c.deref-4.ensures.value ∙ c.in_ok-kinds.ensures) in
    let long = p.long in
    let few = c.requires.size.few in
    record {
      each = subst (All IsKind) (sym kinds) p.each;
      some = (let some = p.some in omega (arith, some, ap length kinds));
      few = omega (arith, few, long, ap length kinds);
      good = subst (λ (ks : List Kind). IsGood 1 (letters_in ks)) (sym kinds) p.good;
    }

pub rest_of-requires-clause-few : goal.rest_of-requires-clause-few
rest_of-requires-clause-few c =
    let objects : c.edges.result + 1 ≡ suc (edges_of c.args.size.now) = (let e = c.edges.ensures.edges in omega (arith, e)) in
    let p = made_preorder c.args.size.now c.args.prefix.now c.in_ok-preorder.preorder.start c.in_ok-preorder.preorder.objects.items c.requires.size c.requires.valid
    (preordered_of c.args.size.now c.args.prefix.now (c.edges.result + 1) c.requires.valid objects c.deref.result.now c.in_ok-preorder.preorder.start c.in_ok-preorder.preorder.objects.items
    (c.deref.ensures.value ∙ c.in_ok-halves.ensures.halves) c.in_ok-preorder.ensures) in
    let long = p.long in
    let few = c.requires.size.few in
    omega (arith, few, long)

pub returns : goal.returns
returns c =
    let objects : c.edges.result + 1 ≡ suc (edges_of c.args.size.now) = (let e = c.edges.ensures.edges in omega (arith, e)) in
    let kinds = kinds_are c.args.size.now c.args.prefix.now (c.edges.result + 1) c.requires.valid objects c.deref-4.result.now c.deref-2.result.now c.in_ok-preorder.preorder.objects.items c.deref-3.result.now
    (c.deref-2.ensures.value ∙ c.in_ok-halves.ensures.halves) c.deref-3.ensures.value (c.deref-4.ensures.value ∙ c.in_ok-kinds.ensures) in
    record {
      start = c.in_ok-preorder.preorder.start;
      objects = c.in_ok-preorder.preorder.objects.items;
      are_preordered = preordered_of c.args.size.now c.args.prefix.now (c.edges.result + 1) c.requires.valid objects c.deref.result.now c.in_ok-preorder.preorder.start c.in_ok-preorder.preorder.objects.items
          (c.deref.ensures.value ∙ c.in_ok-halves.ensures.halves) c.in_ok-preorder.ensures;
      is_planted = subst (λ (ks : List Kind). IsWordOfKinds ks c.in_ok-tree.tree) kinds c.in_ok-tree.ensures;
      rest_is = c.in_ok-rest.ensures;
    }
