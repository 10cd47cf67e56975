use Rattle.std.proofs.Common.{◌≡◌, take}
use Rattle.pm_lehmer.specs.Lehmer.{ranks_among}
use Rattle.pm_lehmer.proofs.coding.write_ranks.Given as goal

abbrev pub invariant-entries : goal.invariant-entries
invariant-entries l = take l.place l.ranks ≡ ranks_among l.entries (take l.place l.entries)
