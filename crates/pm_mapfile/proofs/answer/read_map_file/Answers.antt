use Rattle.std.proofs.Common.{Ok, Err}
use Rattle.pm_mapfile.proofs.TextAnswers.{file_answers, file_map_refused}
use Rattle.pm_mapfile.proofs.answer.read_map_file.Goals as goal

pub returns-in-Ok-map_of_text : goal.returns-in-Ok-map_of_text
returns-in-Ok-map_of_text c =
    file_answers c.args.limit c.args.bytes.now c.in-Ok.file (Ok c.in-Ok-map_of_text.map) c.in-Ok.ensures c.in-Ok-map_of_text.ensures

pub returns-in-Err-map_of_text : goal.returns-in-Err-map_of_text
returns-in-Err-map_of_text c =
    rw c.of_map.ensures (file_map_refused c.args.bytes.now c.args.limit c.in-Ok.file.residue c.in-Err-map_of_text.refusal
    (file_answers c.args.limit c.args.bytes.now c.in-Ok.file (Err c.in-Err-map_of_text.refusal) c.in-Ok.ensures c.in-Err-map_of_text.ensures))
