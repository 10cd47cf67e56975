use Rattle.pm_mapfile.proofs.NumberLines.{numbers_of_list, list_of_numbers}
use Rattle.pm_mapfile.proofs.numbers.read_numbers.Goals as goal

pub returns-in-Ok : goal.returns-in-Ok
returns-in-Ok c = numbers_of_list c.args.tag.now c.args.text.now c.in-Ok.numbers c.in-Ok.ensures.ok

pub returns-in-Err-Text : goal.returns-in-Err-Text
returns-in-Err-Text c = λ ns line. c.in-Err-Text.ensures.text c.in-Err-Text.field-0-is ns (list_of_numbers c.args.tag.now c.args.text.now ns line)
