-- A canonical map has a text.
use Rattle.std.proofs.Common.{List, ℕ, refl}
use Rattle.pm_map.specs.Rotation.{RotationSystem}
use Rattle.pm_map.specs.Canonical.{IsCanonical}
use Rattle.pm_mapfile.specs.MapText.{map_text, IsMapText}

pub canonical_has_text : (m : RotationSystem) → IsCanonical m → (text : List ℕ) × IsMapText m text
canonical_has_text m canonical = (map_text m canonical.vertices, record { vertices = canonical.vertices; is_list = canonical.met; is_text = refl })
