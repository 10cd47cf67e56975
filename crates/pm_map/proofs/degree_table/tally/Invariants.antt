use Rattle.std.proofs.Common.{take, length, ◌≡◌}
use Rattle.pm_map.specs.steps.Tables.{AreTallied}
use Rattle.pm_map.proofs.degree_table.tally.Given as goal

abbrev pub invariant-entries : goal.invariant-entries
invariant-entries l = AreTallied (take l.entry-index l.entries) l.table × (length l.table ≡ length l.initial.table)
