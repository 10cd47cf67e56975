use Rattle.pm_triclose.proofs.FaceTriangles.{closures_triangles}
use Rattle.pm_triclose.proofs.TreeClosures.{closures_maps, closures_plane}
use Rattle.pm_triclose.proofs.laws.closures_are_plane.Goals as goal

pub returns : goal.returns
returns c = record { plane = closures_plane; maps = closures_maps; triangles = closures_triangles }
