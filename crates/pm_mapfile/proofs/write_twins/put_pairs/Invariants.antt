use Rattle.std.proofs.Common.{◌≡◌, ◌++◌, take}
use Rattle.pm_mapfile.specs.ProfileText.{profile_text}
use Rattle.pm_mapfile.proofs.write_twins.put_pairs.Given as goal

abbrev pub invariant-pairs : goal.invariant-pairs
invariant-pairs l = l.text.items ≡ l.fn.text.items ++ profile_text (take l.place l.pairs)
