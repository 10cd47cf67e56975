use Rattle.std.proofs.Common.{◌≡◌, List, ℕ, [], ◌∷◌, ◌++◌, ap, ◌∙◌, append_assoc}
use Rattle.std.specs.Prelude.{codes}
use Rattle.pm_text.specs.Broken.{newline}
use Rattle.pm_lists.specs.ListLine.{list_line}
use Rattle.pm_cli.specs.steps.Answering.{tells}
use Rattle.pm_cli.proofs.printing.print_layers.Goals as goal

abbrev line : List ℕ → List ℕ → List ℕ
line tag numbers = list_line tag numbers ++ newline ∷ []

pub returns : goal.returns
returns c =
    let map_text : List ℕ = c.in_ok-text.text.items in
    let first : c.put_numbers.new.text.items ≡ map_text ++ line (codes "layers") c.in_ok-found.found.distances =
    c.in_ok-put_numbers.ensures ∙ ap (λ (numbers : List ℕ). map_text ++ line (codes "layers") numbers) c.distances.ensures in
    let second : c.put_numbers-2.new.text.items ≡ c.put_numbers.new.text.items ++ line (codes "parents") c.in_ok-found.found.parents =
    c.in_ok-put_numbers-2.ensures ∙ ap (λ (numbers : List ℕ). c.put_numbers.new.text.items ++ line (codes "parents") numbers) c.parents.ensures in
    tells _ (record {
      canonical = c.in_ok-map.map;
      is_canonical = c.in_ok-map.ensures;
      layers = c.in_ok-found.found;
      are_layers = c.in_ok-found.ensures;
      map_text = map_text;
      is_map_text = c.in_ok-text.ensures;
      whole =
          second ∙ ap (λ (text : List ℕ). text ++ line (codes "parents") c.in_ok-found.found.parents) first
          ∙ append_assoc map_text (line (codes "layers") c.in_ok-found.found.distances) (line (codes "parents") c.in_ok-found.found.parents);
    })
