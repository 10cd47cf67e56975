use Rattle.std.proofs.Common.{◌≡◌, ℕ, List, ◌∷◌, length, take, sym, ap, ◌∙◌, arith}
use Rattle.std.proofs.lemmas.List.{take_rest}
use Rattle.pm_text.proofs.WordLemmas.{split-at_space, split-last}
use Rattle.pm_text.proofs.words.Words.next.Goals.{then-place-rest, else-place-rest}
use Rattle.pm_text.proofs.words.Words.next.Goals as goal

pub returns : goal.returns
returns c =
    let rest = c.self.inside.rest.now in
    let place = c.find-place.result in
    let now_is = rw c.if-self.false at c.self.view_is in
    elim c.if-place-rest.branch [
      | then-place-rest w ↦
          let less = w.if-place-rest.true in
          let new_is = rw (c.if-self.false, take_rest) at w.self-is in
          sym now_is
          ∙ split-at_space rest place less c.find-place.ensures.before (c.find-place.ensures.found less)
          ∙ ap (λ (ws : List (List ℕ)). take place rest ∷ ws) (sym new_is)
      | else-place-rest w ↦
          let all : place ≡ length rest = omega arith in
          sym now_is
          ∙ split-last rest place all c.find-place.ensures.before
          ∙ ap (λ (ws : List (List ℕ)). take place rest ∷ ws) (sym w.self-is)
    ]
