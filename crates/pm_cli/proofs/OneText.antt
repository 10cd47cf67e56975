-- A map has one text, and so have maps that are the same.
use Rattle.std.proofs.Common.{◌≡◌, ℕ, List, sym, ap, ◌∙◌, subst}
use Rattle.pm_map.specs.Rotation.{RotationSystem, structure_of, IsRootedMap}
use Rattle.pm_map.specs.Structure.{Same}
use Rattle.pm_map.proofs.UniqueCanonical.{canonical_maps_tell}
use Rattle.pm_map.proofs.UniqueMeeting.{meeting_list_is_unique}
use Rattle.pm_mapfile.specs.MapText.{HasCanonicalText, IsMapText, map_text}

-- a map has one text
pub one_text : (m : RotationSystem) (a b : List ℕ) → IsMapText m a → IsMapText m b → a ≡ b
one_text m a b x y = x.is_text ∙ ap (map_text m) (meeting_list_is_unique (structure_of m) x.vertices y.vertices x.is_list y.is_list) ∙ sym y.is_text

-- maps that are the same have one canonical text
pub one_canonical_text : (one other : RotationSystem) (a b : List ℕ) → IsRootedMap one → IsRootedMap other → Same (structure_of one) (structure_of other) → HasCanonicalText one a → HasCanonicalText other b → a ≡ b
one_canonical_text one other a b rooted also alike x y =
    let same : x.canonical ≡ y.canonical = (canonical_maps_tell one other x.canonical y.canonical rooted also x.is_canonical y.is_canonical).0 alike in
    one_text y.canonical a b (subst (λ (k : RotationSystem). IsMapText k a) same x.is_text) y.is_text
