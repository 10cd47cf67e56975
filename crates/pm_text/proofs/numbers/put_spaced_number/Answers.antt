use Rattle.std.proofs.Common.{◌≡◌, ◌+◌, ◌-◌, ◌∷◌, ◌++◌, is_ok, if◌then◌else◌, length, take, drop, set, decimal, ap, ◌∙◌, arith, rules}
use Rattle.std.proofs.lemmas.List.{append-nil, drop-set, take_all, length-drop, length-set}
use Rattle.std.proofs.lemmas.Fmt.{length-decimal-le}
use Rattle.pm_text.proofs.numbers.put_spaced_number.Goals as goal

pub write_digits-start-requires : goal.write_digits-start-requires
write_digits-start-requires c = search (rules, length-decimal-le 21)

pub overflow_sub-start : goal.overflow_sub-start
overflow_sub-start c = omega (arith, c.write_digits-start.ensures.start, length-decimal-le 20 c.args.value (omega arith) (omega arith) (omega arith))

pub returns : goal.returns
returns c =
    let buf = c.write_digits-start.new.buf in
    let first = c.write_digits-start.result - 1 in
    let some = c.write_digits-start.ensures.start in
    let short = length-decimal-le 20 c.args.value (omega arith) (omega arith) (omega arith) in
    let past : first + 1 ≡ c.write_digits-start.result = omega (arith, some, short) in
    let size : length buf ≡ 21 = c.write_digits-start.auto.buf in
    let all : take (21 - first) (drop first (set buf first 32)) ≡ 32 ∷ decimal c.args.value =
    take_all (21 - first) (drop first (set buf first 32)) (omega (arith, length-drop first (set buf first 32), length-set buf first 32, size))
    ∙ drop-set buf first 32 (omega (arith, some, short, size)) ∙ ap (λ n. 32 ∷ drop n buf) past
    ∙ ap (λ l. 32 ∷ l) (c.write_digits-start.ensures.written ∙ append-nil (decimal c.args.value)) in
    c.extend_from_slice.ensures.items ∙ ap (λ l. if is_ok c.extend_from_slice.result then c.args.text.now.items ++ l else c.args.text.now.items) all
