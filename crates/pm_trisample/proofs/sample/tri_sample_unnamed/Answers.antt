use Rattle.std.proofs.Common.{ℕ, suc, ◌-◌, ◌*◌, ◌+◌, ◌≡◌, [], ◌∷◌, ◌++◌, ap, sym, ◌∙◌, arith}
use Rattle.std.specs.Prelude.{slice_index}
use Rattle.pm_trisample.proofs.Samples.{tri_parts, unnamed_is_sampled}
use Rattle.pm_trisample.proofs.sample.tri_sample_unnamed.Goals as goal

pub slice_bounds-make-end : goal.slice_bounds-make-end
slice_bounds-make-end c = sym (tri_parts c.args.n c.args.choices.now c.requires.valid).coded.long

pub bounds-choices-objects : goal.bounds-choices-objects
bounds-choices-objects c = let long = (tri_parts c.args.n c.args.choices.now c.requires.valid).long in omega (arith, long)

pub make-requires-clause-long : goal.make-requires-clause-long
make-requires-clause-long c = (tri_parts c.args.n c.args.choices.now c.requires.valid).coded.long

pub make-requires-clause-is_code : goal.make-requires-clause-is_code
make-requires-clause-is_code c = (tri_parts c.args.n c.args.choices.now c.requires.valid).coded.is_code

pub make-requires-clause-which : goal.make-requires-clause-which
make-requires-clause-which c = (tri_parts c.args.n c.args.choices.now c.requires.valid).start_low

pub bounds-choices-objects-2 : goal.bounds-choices-objects-2
bounds-choices-objects-2 c = let long = (tri_parts c.args.n c.args.choices.now c.requires.valid).long in omega (arith, long)

pub closed_anew-requires : goal.closed_anew-requires
closed_anew-requires c =
    let e : 4 * c.args.n - 2 + 1 ≡ suc (4 * c.args.n - 2) = omega arith in
    let low = (tri_parts c.args.n c.args.choices.now c.requires.valid).run_low in
    omega (arith, low, ap (slice_index c.args.choices.now) e)

pub returns : goal.returns
returns c =
    let e : 4 * c.args.n - 2 + 1 ≡ suc (4 * c.args.n - 2) = omega arith in
    unnamed_is_sampled c.args.n c.args.choices.now c.in_ok-closed.closed.map c.of.result c.in_ok-made.made.tree c.in_ok-made.made.rest.items c.in_ok-closed.closed.old_plant (slice_index c.args.choices.now (4 * c.args.n - 2 + 1))
    c.requires.size c.requires.valid c.in_ok-made.ensures (ap (slice_index c.args.choices.now) e) c.in_ok-closed.ensures (c.of.ensures ∙ c.in_ok-push.ensures.items ∙ ap (λ (k : ℕ). c.in_ok-made.made.rest.items ++ k ∷ []) c.from.ensures)
