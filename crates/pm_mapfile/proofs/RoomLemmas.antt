-- What the numbers of a line tell of a first line.
use Rattle.std.proofs.Common.{◌≡◌, ℕ, List, [], ◌∷◌, get_or, ap, ◌∙◌}
use Rattle.std.specs.Prelude.{codes}
use Rattle.pm_mapfile.specs.steps.Lines.{IsNumbersLine, IsFirstText}
use Rattle.pm_mapfile.proofs.NumberLines.{numbers_are_unique}
use Rattle.pm_mapfile.proofs.TailLemmas.{tag_map_no_space, tag_map_some}

-- the numbers of a first line are two
pub first_is : (text numbers : List ℕ) (edges root : ℕ) → IsNumbersLine (codes "map") text numbers → IsFirstText text edges root → numbers ≡ edges ∷ root ∷ []
first_is text numbers edges root line t = numbers_are_unique (codes "map") text numbers (edges ∷ root ∷ []) tag_map_no_space tag_map_some line t.line

pub first_of_two : (edges root x : ℕ) (new : List ℕ) → new ≡ edges ∷ root ∷ [] → x ≡ get_or new 0 x → x ≡ edges
first_of_two edges root x new is e = e ∙ ap (λ l. get_or l 0 x) is

pub second_of_two : (edges root x : ℕ) (new : List ℕ) → new ≡ edges ∷ root ∷ [] → x ≡ get_or new 1 x → x ≡ root
second_of_two edges root x new is e = e ∙ ap (λ l. get_or l 1 x) is
