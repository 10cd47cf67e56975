use Rattle.std.proofs.Common.{◌≡◌, ℕ, ◌<◌, get_or}
use Rattle.pm_canon.proofs.naming.rename_all.Given as goal

abbrev pub invariant-rename : goal.invariant-rename
invariant-rename l = (d : ℕ) → d < l.dart → get_or l.new (get_or l.names d 0) 0 ≡ get_or l.names (get_or l.sigma d 0) 0
