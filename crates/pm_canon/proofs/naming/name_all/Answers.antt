use Rattle.std.proofs.Common.{◌≡◌, ◌%◌, length, refl, sym, ◌∙◌, subst, arith}
use Rattle.pm_canon.specs.MeetingOrder.{HasEachOnce}
use Rattle.pm_canon.proofs.NamedLemmas.{naming_list_begins, naming_list_few, naming_list_more, naming_list_ends, naming_list_named}
use Rattle.pm_canon.proofs.naming.name_all.Goals as goal

pub name-init : goal.name-init
name-init c = (refl, naming_list_begins c.args.darts.now c.args.names.now c.requires.unnamed)

pub name_edge-name-requires-clause-few : goal.name_edge-name-requires-clause-few
name_edge-name-requires-clause-few c =
    let once : HasEachOnce (length c.name.names) c.args.darts.now = subst (λ n. HasEachOnce n c.args.darts.now) (sym c.name.invariant.0) c.requires.once in
    omega (arith, naming_list_few c.args.darts.now c.name.darts c.name.names c.name.place c.name.name once c.name.invariant.1 (omega arith), c.name.invariant.0, c.requires.few)

pub name-preserved : goal.name-preserved
name-preserved c =
    let once : HasEachOnce (length c.name.names) c.args.darts.now = subst (λ n. HasEachOnce n c.args.darts.now) (sym c.name.invariant.0) c.requires.once in (
      c.name_edge-name.auto.names ∙ c.name.invariant.0,
      naming_list_more c.args.darts.now c.name.darts c.name.names c.name_edge-name.new.names c.name.place c.name.name c.name_edge-name.result (subst (λ n. n % 2 ≡ 0) (sym c.name.invariant.0) c.requires.even)
          (omega (arith, c.requires.few, c.name.invariant.0)) once c.name.invariant.1 (omega arith) (omega arith) c.name_edge-name.ensures,
    )

pub returns-clause-names : goal.returns-clause-names
returns-clause-names c = naming_list_ends c.args.darts.now c.name.darts c.name.names c.name.place c.name.name c.name.invariant.1 (omega arith)

pub returns-clause-named : goal.returns-clause-named
returns-clause-named c = naming_list_named c.args.darts.now c.name.darts c.name.names c.name.place c.name.name c.name.invariant.1 (omega arith) (omega arith)
