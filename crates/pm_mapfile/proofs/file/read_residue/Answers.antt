use Rattle.std.proofs.Common.{arith}
use Rattle.pm_mapfile.proofs.ResidueLemmas.{told_empty, told_some, residue_unfinished, residue_invalid, residue_followed, residue_whole}
use Rattle.pm_mapfile.proofs.file.read_residue.Goals as goal

pub returns-then-is_empty : goal.returns-then-is_empty
returns-then-is_empty c = told_empty c.args.bytes.now c.is_empty.result c.is_empty.ensures c.if-is_empty.true

pub returns-in_default : goal.returns-in_default
returns-in_default c =
    (residue_unfinished c.args.bytes.now (rw c.new-lines.ensures at c.in_default.ensures) (told_some c.args.bytes.now c.is_empty.result c.is_empty.ensures c.if-is_empty.false), omega arith, omega arith)

pub returns-in_default-2 : goal.returns-in_default-2
returns-in_default-2 c =
    let next = rw c.new-lines.ensures at c.in-Some.ensures in
    (residue_invalid c.in-Some.line.after c.args.bytes.now c.in-Some.line.text.now c.next_ended.new.lines next (rw c.in_default-2.is at c.in_ok-numbers.ensures), omega arith, omega arith)

pub returns-then-is_some : goal.returns-then-is_some
returns-then-is_some c =
    let next = rw c.new-lines.ensures at c.in-Some.ensures in
    let line = rw c.in-Some-2.is at c.in_ok-numbers.ensures in
    (residue_followed c.in-Some.line.after c.args.bytes.now c.in-Some.line.text.now c.in-Some-2.numbers c.next_ended.new.lines next line (λ none. grind arith), omega arith, omega arith)

pub returns : goal.returns
returns c =
    let next = rw c.new-lines.ensures at c.in-Some.ensures in
    let line = rw c.in-Some-2.is at c.in_ok-numbers.ensures in
    residue_whole c.in-Some.line.after c.args.bytes.now c.in-Some.line.text.now c.in-Some-2.numbers c.next_ended.new.lines next line (c.next.ensures.none.0 (grind arith))
