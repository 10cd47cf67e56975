use Rattle.std.proofs.Common.{◌≡◌, ◌+◌, length, arith}
use Rattle.std.proofs.lemmas.List.{take_rest}
use Rattle.pm_mapfile.specs.MapFile.{IsAfterMap}
use Rattle.pm_mapfile.proofs.FileLemmas.{text_fits}
use Rattle.pm_mapfile.proofs.ResidueLemmas.{after_broken}
use Rattle.pm_mapfile.proofs.AnswerLemmas.{file_refusal}
use Rattle.pm_mapfile.proofs.file.read_map_lines.Goals as goal

pub returns-in-Err : goal.returns-in-Err
returns-in-Err c = file_refusal c.args.bytes.now c.in-Err.refusal c.in-Err.ensures

pub overflow_cast-result : goal.overflow_cast-result
overflow_cast-result c = omega (arith, c.requires, c.len.ensures, c.in-Ok.text.sizes.ok.0, text_fits _ _ _ _ _ _ c.in-Ok.ensures)

pub overflow_add-result : goal.overflow_add-result
overflow_add-result c = omega (arith, c.requires, c.len.ensures, c.in-Ok.text.sizes.ok.0, text_fits _ _ _ _ _ _ c.in-Ok.ensures)

pub overflow_add-result-in-Err-Text : goal.overflow_add-result-in-Err-Text
overflow_add-result-in-Err-Text c =
    let b = rw (c.in-Err-Text.field-0-is, take_rest c.args.bytes.now c.in-Ok.text.after) at c.in-Err-Text.ensures in
    omega (arith, c.requires, c.len.ensures, c.in-Ok.text.sizes.ok.0, text_fits _ _ _ _ _ _ c.in-Ok.ensures, b.2)

pub returns : goal.returns
returns c =
    let b = rw (c.in-Err-Text.field-0-is, take_rest c.args.bytes.now c.in-Ok.text.after) at c.in-Err-Text.ensures in
    after_broken IsAfterMap c.in-Ok.text.edges c.in-Ok.text.root c.in-Ok.text.after (c.len.result + 2 + c.in-Err-Text.line) c.in-Err-Text.line c.args.bytes.now c.in-Ok.text.darts.items c.in-Ok.text.sizes.items c.in-Ok.ensures b.1 b.0
    (let count : c.len.result + 2 + c.in-Err-Text.line ≡ length c.in-Ok.text.sizes.items + 2 + c.in-Err-Text.line = omega (arith, c.len.ensures, c.in-Ok.text.sizes.ok.0) in count)
