use Rattle.std.proofs.Common.{ℕ, List, length, refl, sym, ap, ◌∙◌, subst}
use Rattle.std.specs.Prelude.{◌==◌, Err}
use Rattle.pm_map.specs.declared.class_refusal.ClassRefusal.TheVariants as class
use Rattle.pm_cli.specs.declared.refusal.MapRule.TheVariants.{Empty, Vertex}
use Rattle.pm_cli.specs.declared.refusal.Refusal.TheVariants.{Map}
use Rattle.pm_cli.specs.MapAnswers.{AnswersMap, told, breaks, no_dart, other_degree, opening}
use Rattle.pm_cli.proofs.Refusals.{file_passed_on}
use Rattle.pm_cli.proofs.StoppingWords.{empty}
use Rattle.pm_cli.proofs.open.open_eulerian.Goals as goal

pub returns-in_err-map : goal.returns-in_err-map
returns-in_err-map c = file_passed_on opening c.args.bytes.now c.in_err-map.field-0.0 _ c.in_err-map.ensures c.from_residual.ensures.1

pub returns-then-is_empty : goal.returns-then-is_empty
returns-then-is_empty c =
    breaks (Map Empty) class.Empty refl (record {
      residue = c.in_ok-map.ensures.0;
      map = c.in_ok-map.map;
      answered = c.in_ok-map.ensures.1;
      holds = no_dart (empty _ (c.if-is_empty.ensures ∙ ap (λ (sigma : List ℕ). length sigma == 0) c.sigma.ensures.sigma));
    })

pub returns-in-Err-Degree : goal.returns-in-Err-Degree
returns-in-Err-Degree c =
    subst (λ (dart : ℕ). AnswersMap opening c.args.bytes.now (Err (Map (Vertex dart)))) (sym c.in-Err-Degree.dart-is)
    (breaks (Map (Vertex c.in-Err-Degree.dart)) (class.Vertex c.in-Err-Degree.dart) refl (record {
      residue = c.in_ok-map.ensures.0;
      map = c.in_ok-map.map;
      answered = c.in_ok-map.ensures.1;
      holds = other_degree c.in-Err-Degree.dart (rw c.in-Err-Degree.field-0-is at c.in-Err-Degree.ensures);
    }))

pub returns : goal.returns
returns c =
    told _ (record {
      residue = c.in_ok-map.ensures.0;
      map = c.in_ok-map.map;
      answered = c.in_ok-map.ensures.1;
      holds = record { word = c.in-Ok.tree; opened = c.in-Ok.ensures; is_text = c.in_ok-tree_text.ensures };
    })
