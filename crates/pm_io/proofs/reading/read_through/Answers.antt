use Rattle.std.proofs.Common.{◌≡◌, ℕ, ◌+◌, ◌≤◌, length, OnErr, Result, Ok, Err, vec_len, ◌∙◌, arith, rules}
use Rattle.std.proofs.lemmas.List.{length-take-le}
use Rattle.pm_io.specs.Bytes.{without}
use Rattle.pm_io.proofs.BytesLemmas.{without-without}
use Rattle.pm_io.proofs.Turns.{prefix-more, prefix-all}
use Rattle.pm_io.proofs.reading.read_through.Goals as goal

pub returns-then-count-eq0-clause-whole : goal.returns-then-count-eq0-clause-whole
returns-then-count-eq0-clause-whole g c =
    let read = rw (c.turns.invariant.rest, c.if-count-eq0.true) at c.in-Ok.ensures.bytes in
    let after = rw (c.turns.invariant.rest, c.if-count-eq0.true) at c.in-Ok.ensures.taken in
    prefix-all _ _ _ c.read_some.new.buf _ c.turns.invariant.prefix read after

pub returns-then-limit-len-clause-rest : goal.returns-then-limit-len-clause-rest
returns-then-limit-len-clause-rest g c =
    let after = rw c.turns.invariant.rest at c.in-Ok.ensures.taken in (
      vec_len c.turns.bytes + c.in-Ok.count,
      omega (arith, c.in-Ok.ensures.count.0),
      after ∙ without-without _ _ _,
    )

pub turns-preserved : goal.turns-preserved
turns-preserved g c =
    let fits : c.in-Ok.count ≤ length c.read_some.new.buf = c.in-Ok.ensures.count.1 in
    let taken = length-take-le c.in-Ok.count c.read_some.new.buf fits in
    let longer : vec_len c.extend_from_slice.new.self ≡ vec_len c.turns.bytes + c.in-Ok.count = omega (arith, c.in_ok-extend_from_slice.ensures.len) in
    let read = rw c.turns.invariant.rest at c.in-Ok.ensures.bytes in
    let after = rw c.turns.invariant.rest at c.in-Ok.ensures.taken in
    record {
      some = search rules;
      within = search rules;
      prefix = rw (c.in_ok-extend_from_slice.ensures.items, longer) (prefix-more _ _ _ c.read_some.new.buf _ c.turns.invariant.prefix read);
      rest = rw longer (after ∙ without-without _ _ _);
      calm = search rules;
    }

on_err : {T E P : Type 0} (result : Result T E) → P → OnErr result P
on_err (Ok value) holds = tt
on_err (Err refusal) holds = holds

pub returns-in_err-extend_from_slice-clause-rest : goal.returns-in_err-extend_from_slice-clause-rest
returns-in_err-extend_from_slice-clause-rest g c =
    let after = rw c.turns.invariant.rest at c.in-Ok.ensures.taken in
    let rest : (n : ℕ) × (n ≤ c.args.limit + 1) × (g.S.Source.left c.read_some.new.src ≡ without n (g.S.Source.left c.args.src.now)) = (
      vec_len c.turns.bytes + c.in-Ok.count,
      omega (arith, c.in-Ok.ensures.count.0),
      after ∙ without-without _ _ _,
    ) in
    on_err _ rest
