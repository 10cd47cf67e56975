use Rattle.std.proofs.Common.{ℕ, ◌+◌, map, sym, ◌∙◌, arith}
use Rattle.std.proofs.lemmas.List.{ext_get_or, get_or-map, length-map}
use Rattle.pm_objects.proofs.order.raise.Goals as goal

pub returns : goal.returns
returns c =
    let long = length-map c.args.list.now (λ (number : ℕ). c.args.first + number) in
    ext_get_or 0 c.places.list (map (λ (number : ℕ). c.args.first + number) c.args.list.now) (omega (arith, long))
    (λ place within. c.places.invariant.raised place (omega arith) ∙ sym (get_or-map (λ (number : ℕ). c.args.first + number) c.args.list.now place 0 0 (omega arith)))
