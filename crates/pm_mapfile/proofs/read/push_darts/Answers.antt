use Rattle.std.proofs.Common.{◌≡◌, ◌≢◌, ◌+◌, ◌*◌, ◌<◌, length, get_or, arith}
use Rattle.std.proofs.lemmas.List.{take_rest}
use Rattle.pm_mapfile.proofs.VertexLemmas.{no_number, not_below, no_room, no_end, reading_more, reading_longer}
use Rattle.pm_mapfile.proofs.read.push_darts.Goals.{then-dart-edges-via-then-dart-edges, then-dart-edges-via-else-dart-edges+then-len-edges, then-darts-test+else-bytes-place-eq32, else-darts-test, then-place-eq1-via-then-place-eq1, then-place-eq1-via-else-place-eq1+then-place-bytes, then-place-eq1-via-else-place-eq1+else-place-bytes+then-bytes-place-ne10}
use Rattle.pm_mapfile.proofs.read.push_darts.Goals as goal

pub returns-in_default : goal.returns-in_default
returns-in_default c = (
  no_number (2 * c.args.edges) c.args.bytes.now c.darts.place c.args.darts.now.items c.darts.darts.items c.darts.invariant c.darts-test.true c.if-bytes-place-eq32.true
      (rw (take_rest c.args.bytes.now (c.darts.place + 1)) at c.in_default.ensures),
  reading_longer _ _ _ _ _ c.darts.invariant,
)

pub returns-then-dart-edges : goal.returns-then-dart-edges
returns-then-dart-edges c = (
  elim c.then-dart-edges.branch [
    | then-dart-edges-via-then-dart-edges w ↦
        not_below (2 * c.args.edges) c.args.bytes.now c.darts.place c.args.darts.now.items c.darts.darts.items c.in-Some.dart.value c.in-Some.dart.length c.darts.invariant c.darts-test.true c.if-bytes-place-eq32.true
        (rw (take_rest c.args.bytes.now (c.darts.place + 1)) at c.in-Some.ensures)
        (omega (arith, w.if-dart-edges.true))
    | then-dart-edges-via-else-dart-edges+then-len-edges w ↦
        no_room (2 * c.args.edges) c.args.bytes.now c.darts.place c.args.darts.now.items c.darts.darts.items c.darts.invariant c.darts-test.true c.if-bytes-place-eq32.true
        (omega (arith, w.if-len-edges.true, w.len.ensures, c.darts.darts.ok.0))
  ],
  reading_longer _ _ _ _ _ c.darts.invariant,
)

pub darts-preserved : goal.darts-preserved
darts-preserved c =
    rw c.in_ok-push.ensures.items
    (reading_more (2 * c.args.edges) c.args.bytes.now c.darts.place c.args.darts.now.items c.darts.darts.items c.in-Some.dart.value c.in-Some.dart.length c.darts.invariant c.darts-test.true c.if-bytes-place-eq32.true
    (rw (take_rest c.args.bytes.now (c.darts.place + 1)) at c.in-Some.ensures)
    (omega (arith, c.if-dart-edges.false)) (omega (arith, c.if-len-edges.false, c.len.ensures, c.darts.darts.ok.0)))

pub returns-then-place-eq1 : goal.returns-then-place-eq1
returns-then-place-eq1 c =
    let other : c.darts.place < length c.args.bytes.now → get_or c.args.bytes.now c.darts.place 0 ≢ 32 = λ less.
    elim c.darts-test.branch [
      | then-darts-test+else-bytes-place-eq32 w ↦ w.if-bytes-place-eq32.false
      | else-darts-test w ↦ absurd (omega (arith, less, w.darts-test.false))
    ] in
    let unended : c.darts.place < length c.args.bytes.now → get_or c.args.bytes.now c.darts.place 0 ≡ 10 → c.darts.place ≡ 1 = λ less ended.
    elim c.then-place-eq1.branch [
      | then-place-eq1-via-then-place-eq1 w ↦ w.if-place-eq1.true
      | then-place-eq1-via-else-place-eq1+then-place-bytes w ↦ absurd (omega (arith, less, w.if-place-bytes.true))
      | then-place-eq1-via-else-place-eq1+else-place-bytes+then-bytes-place-ne10 w ↦ absurd (w.if-bytes-place-ne10.true ended)
    ] in (
      no_end (2 * c.args.edges) c.args.bytes.now c.darts.place c.args.darts.now.items c.darts.darts.items c.darts.invariant other unended,
      reading_longer _ _ _ _ _ c.darts.invariant,
    )
