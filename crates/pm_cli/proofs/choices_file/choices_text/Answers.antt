use Rattle.std.proofs.Common.{ℕ, List, ◌++◌, ◌∷◌, [], sym, ap, ◌∙◌, subst}
use Rattle.std.specs.Prelude.{codes}
use Rattle.pm_lists.specs.ListLine.{list_line}
use Rattle.pm_text.specs.Broken.{newline}
use Rattle.pm_cli.specs.Sampling.{IsChoicesLine}
use Rattle.pm_cli.proofs.ChoicesLines.{line_of}
use Rattle.pm_cli.proofs.choices_file.choices_text.Goals as goal

pub returns : goal.returns
returns c =
    subst (IsChoicesLine c.args.choices.now)
    (sym (c.in_ok-put_list.ensures.text ∙ ap (λ (old : List ℕ). old ++ (list_line (codes "choices") c.args.choices.now ++ newline ∷ [])) c.new-text.ensures.items))
    (line_of (list_line (codes "choices") c.args.choices.now) c.args.choices.now c.in_ok-put_list.ensures.read_again)
