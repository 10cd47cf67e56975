use Rattle.std.proofs.Common.{◌/◌, length, ap, sym, ◌∙◌}
use Rattle.pm_map.specs.Rotation.{structure_of}
use Rattle.pm_map.proofs.UniqueMeeting.{meeting_list_is_unique}
use Rattle.pm_mapfile.specs.TwinText.{edge_twins, text_with_twins}
use Rattle.pm_mapfile.proofs.write_twins.map_has_one_text_with_twins.Goals as goal

pub returns : goal.returns
returns c = λ m class one other first second.
    let edges = length m.sigma / 2 in
    first.is_text ∙ ap (λ vertices. text_with_twins class edges m.root vertices (edge_twins edges)) (meeting_list_is_unique (structure_of m) first.vertices second.vertices first.is_list second.is_list) ∙ sym second.is_text
