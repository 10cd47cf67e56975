use Rattle.std.proofs.Common.{rules, ◌≡◌, length, slice_index, subst, sym}
use Rattle.pm_perm.specs.Exchange.{IsExchangeBelow}
use Rattle.pm_perm.specs.Permutation.{IsPermutationBelow, IsPermutationList}
use Rattle.pm_perm.proofs.Exchanged.{inverse-exchanged}
use Rattle.pm_perm.proofs.Merged.{exchange-permutes}
use Rattle.pm_pool.proofs.links.relink.Goals as goal

pub returns : goal.returns
returns c =
    let same : length c.swap.new.self ≡ length c.args.next.now = search rules in
    let exchanged : IsExchangeBelow (length c.args.next.now) (slice_index c.args.next.now) (slice_index c.swap.new.self) c.args.a c.args.b = search rules in
    let still : IsPermutationList c.swap.new.self = subst (λ n. IsPermutationBelow n (slice_index c.swap.new.self)) (sym same)
    (exchange-permutes _ _ _ _ _ c.requires.permutation c.requires.first_inside c.requires.second_inside exchanged) in
    record {
      same_length = same;
      exchanged = exchanged;
      still = still;
      inverse = inverse-exchanged c.args.next.now c.swap.new.self c.args.prev.now c.args.a c.args.b c.requires.permutation still c.requires.inverse same
          c.requires.first_inside c.requires.second_inside exchanged;
    }
