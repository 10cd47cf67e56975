use Rattle.std.proofs.Common.{ap, sym, ◌∙◌}
use Rattle.pm_map.specs.Rotation.{structure_of}
use Rattle.pm_map.proofs.UniqueMeeting.{meeting_list_is_unique}
use Rattle.pm_mapfile.specs.MapText.{map_text}
use Rattle.pm_mapfile.proofs.write.map_has_one_text.Goals as goal

pub returns : goal.returns
returns c = λ m one other first second.
    first.is_text ∙ ap (map_text m) (meeting_list_is_unique (structure_of m) first.vertices second.vertices first.is_list second.is_list) ∙ sym second.is_text
