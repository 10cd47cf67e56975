-- No map file with its residue line is without an answer of the commands that unsample.
use Rattle.std.proofs.Common.{◌≡◌, ℕ, ◌≤◌, List, [], ◌∷◌, ◌++◌, refl, ap}
use Rattle.std.specs.Prelude.{codes, Some, Result, Ok, Err}
use Rattle.pm_limits.specs.declared.TheConstants.{MAX_EDGES}
use Rattle.pm_text.specs.Broken.{newline}
use Rattle.pm_lists.specs.ListLine.{list_line}
use Rattle.pm_lists.proofs.ValidWords.{valid_are_words}
use Rattle.pm_map.specs.declared.class_refusal.ClassRefusal.{ClassRefusal}
use Rattle.pm_map.specs.declared.class_refusal.ClassRefusal.TheVariants as class
use Rattle.pm_map.specs.declared.rooted_map.RootedMap.{RootedMap}
use Rattle.pm_map.specs.Rotation.{RotationSystem, IsRootedMap}
use Rattle.pm_class.specs.declared.sample.UnsampleRefusal.TheVariants as pair
use Rattle.pm_class.proofs.UndoingLemmas.{map_is_unsampled}
use Rattle.pm_mapfile.specs.declared.refusal.FileRefusal.{FileRefusal}
use Rattle.pm_mapfile.specs.declared.refusal.FileRefusal.TheVariants as reading
use Rattle.pm_mapfile.specs.Answers.{AnswersFile, IsSampleFileAnswer}
use Rattle.pm_mapfile.proofs.SomeAnswer.{some_answer}
use Rattle.pm_cli.specs.declared.refusal.Refusal.{Refusal}
use Rattle.pm_cli.specs.declared.refusal.Refusal.TheVariants.{Text, Invalid}
use Rattle.pm_cli.specs.Classes.{Sampler, in_class}
use Rattle.pm_cli.specs.Laws.{IsAnswered}
use Rattle.pm_cli.specs.MapAnswers.{broken, makes_none}
use Rattle.pm_cli.specs.Unsampling.{Unsamples, unsampled, no_map, refused}
use Rattle.pm_cli.specs.steps.ClassLaws.{IsSampler}
use Rattle.pm_cli.proofs.MapRelations.{rooted_map, rule_of_lines_is, rule_of_class_is}
use Rattle.pm_cli.proofs.SomeSampling.{valid_or_refusal}

module _ (S : Sampler) (laws : IsSampler S) (bytes : List ℕ) (answered : (answer : Result (List ℕ) Refusal) → Unsamples (in_class S) bytes answer → ⊥) where
  of_map : (m : RotationSystem) (residue : List ℕ) → AnswersFile bytes S.most_edges (Some residue) (Ok m) → IsRootedMap m → (answer : Result S.Measure ClassRefusal) → S.answers m answer
      → (answer ≡ Err class.Memory → ⊥) → ⊥
  of_map m residue file rooted (Ok size) is memory =
      let sized = (laws.sized m size rooted).0 is in
      let limits = laws.limits size sized.0 in
      valid_or_refusal residue (S.residue_limits size)
      (λ valid.
      let found = map_is_unsampled S.is_size S.choice_limits S.residue_limits S.has S.answers S.samples laws.sized laws.one_answer laws.one_to_one laws.kept size m residue sized.0 rooted sized.1 valid in
      let fit = valid_are_words found.0 (S.choice_limits found.1.size) found.1.valid (laws.limits found.1.size ((laws.sized m found.1.size rooted).0 found.1.in_class).0).choices_fit in
      let text : List ℕ = list_line (codes "choices") found.0 ++ newline ∷ [] in
      answered (Ok text) (unsampled text (record { residue = residue; map = m; answered = file; holds = record { choices = found.0; unsampled = found.1; is_text = record { fit = fit; spelled = refl } } })))
      (λ refusal wrong. answered (Err (Invalid refusal)) (refused (Invalid refusal) (pair.List refusal) refl (record { residue = residue; map = m; answered = file; holds = (size, (is, wrong)) })))
  of_map m residue file rooted (Err why) is memory =
      let rule = rule_of_class_is why (λ e. memory (ap Err e)) in
      answered (Err rule.0) (refused rule.0 (pair.Class why) rule.1 (record { residue = residue; map = m; answered = file; holds = (is, λ e. memory (ap Err e)) }))

  of_file : (answer : Result (RootedMap × List ℕ) FileRefusal) → IsSampleFileAnswer bytes S.most_edges answer → (answer ≡ Err reading.Memory → ⊥) → ⊥
  of_file (Ok read) file memory =
      let rooted = rooted_map bytes S.most_edges (Some read.1) read.0 file in
      laws.some_answer read.0 rooted (λ answer is no_memory. of_map read.0 read.1 file rooted answer is no_memory)
  of_file (Err (reading.Text line)) is memory = answered (Err (Text line)) (no_map (Text line) (broken line is))
  of_file (Err (reading.Map why)) is memory = let rule = rule_of_lines_is why is.1 in answered (Err rule.0) (no_map rule.0 (makes_none rule.0 why rule.1 is.0))
  of_file (Err reading.Memory) is memory = memory refl

pub unsamples_answered : (S : Sampler) → IsSampler S → S.most_edges ≤ MAX_EDGES → (bytes : List ℕ) → IsAnswered (Unsamples (in_class S) bytes)
unsamples_answered S laws le bytes answered = some_answer (λ (read : List ℕ). Some read) bytes S.most_edges le (of_file S laws bytes answered)
