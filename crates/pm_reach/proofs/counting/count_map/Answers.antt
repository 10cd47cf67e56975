use Rattle.std.proofs.Common.{◌≡◌, ◌+◌, ap, sym, ◌∙◌, arith}
use Rattle.std.specs.Prelude.{unwrap_or}
use Rattle.std.specs.Map.{lookup}
use Rattle.indexmap.specs.IndexMap.{insert_entry}
use Rattle.pm_reach.specs.Census.{number_of, is_same_map}
use Rattle.pm_reach.proofs.CountedMaps.{number-lookup, raised-insert}
use Rattle.pm_reach.proofs.counting.count_map.Goals as goal

pub overflow_add-number : goal.overflow_add-number
overflow_add-number c =
    let number : c.unwrap_or-number.result ≡ number_of c.args.map c.args.numbers.now.entries =
    c.unwrap_or-number.ensures ∙ ap (λ found. unwrap_or found 0) (c.copied.ensures ∙ c.get.ensures.value)
    ∙ ap (λ key. unwrap_or (lookup (is_same_map key) c.args.numbers.now.entries) 0) c.of-key.ensures
    ∙ sym (number-lookup c.args.map c.args.numbers.now.entries) in
    omega (arith, number, c.requires)

pub returns : goal.returns
returns c =
    let number : c.unwrap_or-number.result ≡ number_of c.args.map c.args.numbers.now.entries =
    c.unwrap_or-number.ensures ∙ ap (λ found. unwrap_or found 0) (c.copied.ensures ∙ c.get.ensures.value)
    ∙ ap (λ key. unwrap_or (lookup (is_same_map key) c.args.numbers.now.entries) 0) c.of-key.ensures
    ∙ sym (number-lookup c.args.map c.args.numbers.now.entries) in
    c.in_ok-insert.ensures.entries
    ∙ ap (λ key. insert_entry is_same_map c.args.numbers.now.entries key (c.unwrap_or-number.result + 1)) c.of-key.ensures
    ∙ ap (λ count. insert_entry is_same_map c.args.numbers.now.entries c.args.map (count + 1)) number
    ∙ raised-insert c.args.map c.args.numbers.now.entries
