use Rattle.std.proofs.Common.{Ok, Err}
use Rattle.pm_mapfile.proofs.TextAnswers.{answers_text, text_map_refused}
use Rattle.pm_mapfile.proofs.answer.read_map.Goals as goal

pub returns-in-Ok-map_of_text : goal.returns-in-Ok-map_of_text
returns-in-Ok-map_of_text c =
    answers_text c.in-Ok.text.edges c.in-Ok.text.root c.in-Ok.text.after c.args.limit c.args.bytes.now c.in-Ok.text.darts.items c.in-Ok.text.sizes.items (Ok c.in-Ok-map_of_text.map)
    c.in-Ok.ensures c.in-Ok-map_of_text.ensures

pub returns : goal.returns
returns c =
    rw c.of_map.ensures (text_map_refused c.args.bytes.now c.args.limit c.in-Ok.text.after c.in-Err-map_of_text.refusal
    (answers_text c.in-Ok.text.edges c.in-Ok.text.root c.in-Ok.text.after c.args.limit c.args.bytes.now c.in-Ok.text.darts.items c.in-Ok.text.sizes.items (Err c.in-Err-map_of_text.refusal)
    c.in-Ok.ensures c.in-Err-map_of_text.ensures))
