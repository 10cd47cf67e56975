use Rattle.std.proofs.Common.{◌≡◌, ℕ, List, ap, ap₂, sym, ◌∙◌}
use Rattle.std.proofs.lemmas.Slice.Eq.{slice_eq-Decides}
use Rattle.std.proofs.lemmas.Bool.Decides.{Decides-eqb}
use Rattle.pm_map.specs.Rotation.{RotationSystem}
use Rattle.pm_map.proofs.UniqueCanonical.{canonical_maps_tell}
use Rattle.pm_canon.proofs.same.Goals as goal

-- two systems with the same rotation and the same root are one
same_systems : (m n : RotationSystem) → m.sigma ≡ n.sigma → m.root ≡ n.root → m ≡ n
same_systems m n is_sigma is_root = ap₂ (λ (s : List ℕ) (r : ℕ). let system : RotationSystem = record { sigma = s; root = r } in system) is_sigma is_root

pub returns : goal.returns
returns c =
    let tells = slice_eq-Decides Decides-eqb c.sigma.result.now c.sigma-2.result.now c.eq.result c.eq.ensures in
    let maps = canonical_maps_tell c.args.first.now c.args.second.now c.in_ok-first.first c.in_ok-second.second c.edges.ensures.valid c.edges-2.ensures.valid c.in_ok-first.ensures c.in_ok-second.ensures in (
      λ is. maps.1 (same_systems _ _ (sym c.sigma.ensures.sigma ∙ tells.0 is ∙ c.sigma-2.ensures.sigma) (c.in_ok-first.ensures.is_canonical.root ∙ sym c.in_ok-second.ensures.is_canonical.root)),
      λ same. tells.1 (c.sigma.ensures.sigma ∙ ap (λ m. m.sigma) (maps.0 same) ∙ sym c.sigma-2.ensures.sigma),
    )
