use Rattle.std.proofs.Common.{◌≡◌, ◌<◌, ◌≤◌, true, false, ltb, length, drop, sym, arith}
use Rattle.std.proofs.lemmas.Bool.{lt-ltb, le-ltb, eqb-false}
use Rattle.std.proofs.lemmas.List.{take_rest}
use Rattle.pm_text.proofs.ReadingLemmas.{ended_line, unfinished_line}
use Rattle.pm_text.proofs.lines.Lines.next.Goals.{then-ended, else-ended}
use Rattle.pm_text.proofs.lines.Lines.next.Goals as goal

pub returns-clause-cases : goal.returns-clause-cases
returns-clause-cases c =
    let bytes = c.self.inside.bytes.now in
    let given = c.self.inside.given in
    let place = c.find-place.result in
    let rest_is = take_rest bytes given in
    let none = rw rest_is at c.find-place.ensures.before in
    elim c.if-ended.branch [
      | then-ended w ↦
          let less : place < length (drop given bytes) = rw rest_is at w.if-ended.true in
          let found = rw rest_is at c.find-place.ensures.found in
          let test : ltb place (length (drop given bytes)) ≡ true = lt-ltb place (length (drop given bytes)) less in
          rw (w.self-inside-is, ← c.self.view_is, rest_is, test) (ended_line bytes given place c.self.invariant less none (found less))
      | else-ended w ↦
          let most : length (drop given bytes) ≤ place = rw rest_is at w.if-ended.false in
          let within : place ≤ length (drop given bytes) = rw rest_is at c.find-place.ensures.within in
          let some = rw rest_is at (c.if-is_empty.ensures) in
          let test : ltb place (length (drop given bytes)) ≡ false = le-ltb place (length (drop given bytes)) most in
          rw (w.self-inside-is, ← c.self.view_is, rest_is, test) (unfinished_line bytes given place c.self.invariant (omega arith) (eqb-false (length (drop given bytes)) 0 (sym some)) none)
    ]
