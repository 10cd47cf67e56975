use Rattle.std.proofs.Common.{◌≡◌, ◌-◌, ◌++◌, ◌∷◌, [], ◌∙◌, ap, length, length-append, arith}
use Rattle.pm_mapfile.proofs.read.read_vertex.Goals as goal

pub returns : goal.returns
returns c =
    let read = rw c.in-Some.is at c.in_ok-count.ensures in
    let count : c.len.result - c.len-start.result ≡ length read.vertex =
    omega (arith, c.len.ensures, c.len-start.ensures, c.push_darts.new.darts.ok.0, c.args.darts.now.ok.0, ap length read.appended, length-append c.args.darts.now.items read.vertex) in
    record { read = read; sized = c.in_ok-push.ensures.items ∙ ap (λ n. c.args.sizes.now.items ++ n ∷ []) count }
