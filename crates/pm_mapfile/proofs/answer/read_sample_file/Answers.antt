use Rattle.std.proofs.Common.{◌≡◌, ◌+◌, length, arith, Ok, Err}
use Rattle.pm_mapfile.proofs.FileLemmas.{text_fits}
use Rattle.pm_mapfile.proofs.SampleLemmas.{residue_missing}
use Rattle.pm_mapfile.proofs.TextAnswers.{file_answers, sample_refused, sample_map_refused}
use Rattle.pm_mapfile.proofs.answer.read_sample_file.Goals as goal

pub returns-in-Err : goal.returns-in-Err
returns-in-Err c = rw c.of_text.ensures (sample_refused c.args.bytes.now c.args.limit c.in-Err.refusal c.in-Err.ensures)

pub overflow_cast-line : goal.overflow_cast-line
overflow_cast-line c = omega (arith, c.requires.bytes, c.len.ensures, c.in-Ok.file.text.sizes.ok.0, text_fits _ _ _ _ _ _ c.in-Ok.ensures.0)

pub overflow_add-line : goal.overflow_add-line
overflow_add-line c = omega (arith, c.requires.bytes, c.len.ensures, c.in-Ok.file.text.sizes.ok.0, text_fits _ _ _ _ _ _ c.in-Ok.ensures.0)

pub returns-in_default : goal.returns-in_default
returns-in_default c =
    let text = c.in-Ok.file.text in
    let none = rw c.in_default.is at c.in-Ok.ensures in
    let line : c.len.result + 3 ≡ length text.sizes.items + 3 = omega (arith, c.len.ensures, text.sizes.ok.0) in
    residue_missing text.edges text.root text.after (c.len.result + 3) c.args.bytes.now text.darts.items text.sizes.items none.0 none.1 line

pub returns-in-Ok-map_of_text : goal.returns-in-Ok-map_of_text
returns-in-Ok-map_of_text c =
    rw c.in-Some.is at (file_answers c.args.limit c.args.bytes.now c.in-Ok.file (Ok c.in-Ok-map_of_text.map) c.in-Ok.ensures c.in-Ok-map_of_text.ensures)

pub returns : goal.returns
returns c =
    let answered = rw c.in-Some.is at (file_answers c.args.limit c.args.bytes.now c.in-Ok.file (Err c.in-Err-map_of_text.refusal) c.in-Ok.ensures c.in-Err-map_of_text.ensures) in
    rw c.of_map.ensures (sample_map_refused c.args.bytes.now c.args.limit c.in-Some.residue c.in-Err-map_of_text.refusal answered)
