use Rattle.std.proofs.Common.{◌≡◌, ◌+◌, length, ap, ◌∙◌, arith}
use Rattle.std.specs.Prelude.{codes}
use Rattle.std.specs.Str.{bytes_eq}
use Rattle.pm_mapfile.proofs.NumberLines.{told_equal, told_unequal}
use Rattle.pm_mapfile.proofs.ReadLemmas.{IsReadSoFar, first_missing, first_broken, read_begins, read_vertex_more, read_the_same, next_missing_told, end_broken_told, vertex_broken_told, read_ends, lines_fit, vertex_takes}
use Rattle.pm_mapfile.proofs.read.read_map_text.Goals.{then-not-is_end-via-then-not-is_end, then-not-is_end-via-else-not-is_end+then-len-from}
use Rattle.pm_mapfile.proofs.read.read_map_text.Goals as goal

pub returns-in_default : goal.returns-in_default
returns-in_default c = first_missing c.args.bytes.now (rw c.new-lines.ensures at c.in_default.ensures)

pub returns-in_default-2 : goal.returns-in_default-2
returns-in_default-2 c =
    let next = rw c.new-lines.ensures at c.in-Some.ensures in
    let none = rw c.in_default-2.is at c.in_ok-first.ensures in
    first_broken c.in-Some.line.after c.args.bytes.now c.in-Some.line.text.now c.next_ended.new.lines next
    (λ edges root first line. none edges root (record { first = first; line = line }))

pub lines-init : goal.lines-init
lines-init c =
    let next = rw c.new-lines.ensures at c.in-Some.ensures in
    let first = rw c.in-Some-2.is at c.in_ok-first.ensures in
    rw (c.new-darts.ensures.items, c.new-sizes.ensures.items)
    (read_begins c.in-Some.line.after c.in-Some-2.first.edges c.in-Some-2.first.root c.args.bytes.now c.in-Some.line.text.now c.next_ended.new.lines next first.first first.line)

pub lines-preserved : goal.lines-preserved
lines-preserved c =
    let read = rw (c.in-Some-3.is, c.rest.ensures) at c.in_ok-count.ensures in
    rw c.skip.ensures
    (read_vertex_more c.in-Some-2.first.edges c.in-Some-2.first.root c.in-Some-3.count c.args.bytes.now c.lines.darts.items c.lines.sizes.items c.read_vertex.new.darts.items c.read_vertex.new.sizes.items c.lines.lines
    c.lines.invariant read)

pub lines-smaller : goal.lines-smaller
lines-smaller c =
    let read = rw (c.in-Some-3.is, c.rest.ensures) at c.in_ok-count.ensures in
    rw c.skip.ensures (vertex_takes _ _ _ _ _ _ _ read)

pub skip-requires : goal.skip-requires
skip-requires c =
    let read = rw (c.in-Some-3.is, c.rest.ensures) at c.in_ok-count.ensures in
    read.read.within

pub overflow_cast-refusal : goal.overflow_cast-refusal
overflow_cast-refusal c =
    let none = rw (c.in_default-3.is, c.rest.ensures) at c.in_ok-count.ensures in
    let fit = lines_fit c.in-Some-2.first.edges c.in-Some-2.first.root c.args.bytes.now c.lines.darts.items c.lines.sizes.items c.lines.lines c.lines.invariant in
    omega (arith, fit, c.requires, ap length none.2, c.len.ensures, c.read_vertex.new.sizes.ok.0)

pub overflow_add-refusal : goal.overflow_add-refusal
overflow_add-refusal c =
    let none = rw (c.in_default-3.is, c.rest.ensures) at c.in_ok-count.ensures in
    let fit = lines_fit c.in-Some-2.first.edges c.in-Some-2.first.root c.args.bytes.now c.lines.darts.items c.lines.sizes.items c.lines.lines c.lines.invariant in
    omega (arith, fit, c.requires, ap length none.2, c.len.ensures, c.read_vertex.new.sizes.ok.0)

pub returns-in_default-next_ended : goal.returns-in_default-next_ended
returns-in_default-next_ended c =
    let none = rw (c.in_default-3.is, c.rest.ensures) at c.in_ok-count.ensures in
    let line : c.len.result + 2 ≡ length c.lines.sizes.items + 2 = omega (arith, ap length none.2, c.len.ensures, c.read_vertex.new.sizes.ok.0) in
    next_missing_told c.in-Some-2.first.edges c.in-Some-2.first.root (c.len.result + 2) c.args.bytes.now c.lines.darts.items c.lines.sizes.items c.lines.lines line c.lines.invariant c.in_default-next_ended.ensures

pub returns-then-not-is_end : goal.returns-then-not-is_end
returns-then-not-is_end c =
    let none = rw (c.in_default-3.is, c.rest.ensures) at c.in_ok-count.ensures in
    let line : c.len.result + 2 ≡ length c.lines.sizes.items + 2 = omega (arith, ap length none.2, c.len.ensures, c.read_vertex.new.sizes.ok.0) in
    let text = c.in-Some-next_ended.last.text.now in
    let tells = c.eq-is_end.ensures ∙ ap (bytes_eq text) c.as_slice.ensures in
    elim c.then-not-is_end.branch [
      | then-not-is_end-via-then-not-is_end w ↦
          vertex_broken_told c.in-Some-next_ended.last.after c.in-Some-2.first.edges c.in-Some-2.first.root (c.len.result + 2) c.args.bytes.now text c.lines.darts.items c.lines.sizes.items c.lines.lines c.next_ended-2.new.lines
          line c.lines.invariant c.in-Some-next_ended.ensures (told_unequal text (codes "end") c.eq-is_end.result tells w.if-not-is_end.true) none.0
      | then-not-is_end-via-else-not-is_end+then-len-from w ↦
          end_broken_told c.in-Some-next_ended.last.after c.in-Some-2.first.edges c.in-Some-2.first.root (c.len.result + 2) c.args.bytes.now text c.lines.darts.items c.lines.sizes.items c.lines.lines c.next_ended-2.new.lines
          line c.lines.invariant c.in-Some-next_ended.ensures (told_equal text (codes "end") c.eq-is_end.result tells w.if-not-is_end.false)
          (λ all. w.if-len-from.true (omega (arith, all, w.len-else-not-is_end.ensures, w.from.ensures, ap length none.1, c.read_vertex.new.darts.ok.0)))
    ]

pub returns : goal.returns
returns c =
    let none = rw (c.in_default-3.is, c.rest.ensures) at c.in_ok-count.ensures in
    let text = c.in-Some-next_ended.last.text.now in
    let tells = c.eq-is_end.ensures ∙ ap (bytes_eq text) c.as_slice.ensures in
    let read : IsReadSoFar c.args.bytes.now c.in-Some-2.first.edges c.in-Some-2.first.root c.read_vertex.new.darts.items c.read_vertex.new.sizes.items c.lines.lines =
    read_the_same _ _ _ _ _ _ _ _ none.1 none.2 c.lines.invariant in
    read_ends c.in-Some-next_ended.last.after c.in-Some-2.first.edges c.in-Some-2.first.root c.args.bytes.now text c.read_vertex.new.darts.items c.read_vertex.new.sizes.items c.lines.lines c.next_ended-2.new.lines
    read c.in-Some-next_ended.ensures (told_equal text (codes "end") c.eq-is_end.result tells c.if-not-is_end.false)
    (omega (arith, c.if-len-from.false, c.len-else-not-is_end.ensures, c.from.ensures, c.read_vertex.new.darts.ok.0))
