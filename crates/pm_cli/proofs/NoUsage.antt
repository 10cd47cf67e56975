-- A file is never refused as words are.
use Rattle.std.proofs.Common.{◌≡◌, ℕ, List, ap, ◌∙◌}
use Rattle.std.specs.Prelude.{Option, None, Some, Result, Ok, Err}
use Rattle.pm_map.specs.declared.class_refusal.ClassRefusal.{ClassRefusal}
use Rattle.pm_map.specs.declared.class_refusal.ClassRefusal.TheVariants as class
use Rattle.pm_map.specs.declared.refusal.MapRefusal.{MapRefusal}
use Rattle.pm_map.specs.declared.refusal.MapRefusal.TheVariants as made
use Rattle.pm_class.specs.declared.sample.UnsampleRefusal.{UnsampleRefusal}
use Rattle.pm_class.specs.declared.sample.UnsampleRefusal.TheVariants as pair
use Rattle.pm_cli.specs.declared.close.Trees.{Trees}
use Rattle.pm_cli.specs.declared.command.Reader.{Reader}
use Rattle.pm_cli.specs.declared.command.Reader.TheVariants.{Close, OpenEulerian, OfMap, Check, Unsample, Sample}
use Rattle.pm_cli.specs.declared.refusal.Refusal.{Refusal}
use Rattle.pm_cli.specs.declared.refusal.Stop.{Stop}
use Rattle.pm_cli.specs.declared.refusal.Stop.TheVariants.{Refused, Read, Write, Memory}
use Rattle.pm_cli.specs.Answer.{AnswersReader}
use Rattle.pm_cli.specs.Classes.{InClass, class_at, counts_of, AtSize, sized}
use Rattle.pm_cli.specs.Closing.{ClosesFile, closed, broken as broken_line, refused as refused_word}
use Rattle.pm_cli.specs.Lines.{status_of_refusal, status_of_stop}
use Rattle.pm_cli.specs.MapAnswers.{rule_of_lines, rule_of_class, RefusesFile, broken, makes_none, MapRelation, AnswersMap, told, no_map, breaks, task_relation, opening}
use Rattle.pm_cli.specs.Sampling.{Samples, sampled, no_list, not_valid}
use Rattle.pm_cli.specs.TreeKinds.{kind_of}
use Rattle.pm_cli.specs.Unsampling.{rule_of_pair, Unsamples, unsampled, no_map as no_pair, refused}
use Rattle.pm_cli.specs.steps.Answering.{IsAnswerBy}
use Rattle.pm_cli.proofs.TreeLines.{kind_laws}

-- the status of a rule, and of none
abbrev status_of_rule : Option Refusal → ℕ
status_of_rule None = 0
status_of_rule (Some refusal) = status_of_refusal refusal

-- no rule has the status of words
ruled : (rule : Option Refusal) (refusal : Refusal) → (status_of_rule rule ≡ 2 → ⊥) → rule ≡ Some refusal → status_of_refusal refusal ≡ 2 → ⊥
ruled rule refusal none is e = none (ap status_of_rule is ∙ e)

no_line_rule : (why : MapRefusal) → status_of_rule (rule_of_lines why) ≡ 2 → ⊥
no_line_rule made.Memory e = cc
no_line_rule (made.TooMany edges) e = cc
no_line_rule (made.NotPermutation dart) e = cc
no_line_rule (made.NotConnected dart) e = cc
no_line_rule (made.Genus euler) e = cc

no_class_rule : (why : ClassRefusal) → status_of_rule (rule_of_class why) ≡ 2 → ⊥
no_class_rule class.Memory e = cc
no_class_rule class.Empty e = cc
no_class_rule (class.TooMany edges) e = cc
no_class_rule (class.Vertex dart) e = cc
no_class_rule (class.Face dart) e = cc
no_class_rule (class.Loop dart) e = cc
no_class_rule (class.Double dart) e = cc

no_pair_rule : (why : UnsampleRefusal) → status_of_rule (rule_of_pair why) ≡ 2 → ⊥
no_pair_rule pair.Memory e = cc
no_pair_rule (pair.Class why) e = no_class_rule why e
no_pair_rule (pair.List refusal) e = cc

no_file_rule : (form : List ℕ → Type 0) (makes_no_map : MapRefusal → Type 0) (bytes : List ℕ) (refusal : Refusal) → RefusesFile form makes_no_map bytes refusal → status_of_refusal refusal ≡ 2 → ⊥
no_file_rule form makes_no_map bytes _ (broken line h) e = cc
no_file_rule form makes_no_map bytes _ (makes_none refusal why rule h) e = ruled (rule_of_lines why) refusal (no_line_rule why) rule e

abbrev status_of_answer : Result (List ℕ) Refusal → ℕ
status_of_answer (Ok text) = 0
status_of_answer (Err refusal) = status_of_refusal refusal

by_map : (relation : MapRelation) (bytes : List ℕ) (answer : Result (List ℕ) Refusal) → AnswersMap relation bytes answer → status_of_answer answer ≡ 2 → ⊥
by_map relation bytes _ (told text h) e = cc
by_map relation bytes _ (no_map refusal h) e = no_file_rule _ _ bytes refusal h e
by_map relation bytes _ (breaks refusal why rule h) e = ruled (rule_of_class why) refusal (no_class_rule why) rule e

by_pair : (at : InClass) (bytes : List ℕ) (answer : Result (List ℕ) Refusal) → Unsamples at bytes answer → status_of_answer answer ≡ 2 → ⊥
by_pair at bytes _ (unsampled text h) e = cc
by_pair at bytes _ (no_pair refusal h) e = no_file_rule _ _ bytes refusal h e
by_pair at bytes _ (refused refusal why rule h) e = ruled (rule_of_pair why) refusal (no_pair_rule why) rule e

by_choices : (at : AtSize) (bytes : List ℕ) (answer : Result (List ℕ) Refusal) → Samples at bytes answer → status_of_answer answer ≡ 2 → ⊥
by_choices at bytes _ (sampled text h) e = cc
by_choices at bytes _ (no_list line h) e = cc
by_choices at bytes _ (not_valid refusal h) e = cc

by_tree : (trees : Trees) (bytes : List ℕ) (answer : Result (List ℕ) Refusal) → ClosesFile (kind_of trees) bytes answer → status_of_answer answer ≡ 2 → ⊥
by_tree trees bytes _ (closed text h) e = cc
by_tree trees bytes _ (broken_line line h) e = cc
by_tree trees bytes _ (refused_word refusal h) e = let laws = kind_laws trees in laws.no_usage h.word refusal h.holds e

by_reader : (reader : Reader) (bytes : List ℕ) (answer : Result (List ℕ) Refusal) → AnswersReader reader bytes answer → status_of_answer answer ≡ 2 → ⊥
by_reader (Close trees) bytes answer h e = by_tree trees bytes answer h e
by_reader OpenEulerian bytes answer h e = by_map opening bytes answer h e
by_reader (OfMap task) bytes answer h e = by_map (task_relation task) bytes answer h e
by_reader (Check class) bytes answer h e = by_map (counts_of class) bytes answer h e
by_reader (Unsample class) bytes answer h e = by_pair (class_at class) bytes answer h e
by_reader (Sample size) bytes answer h e = by_choices (sized size) bytes answer h e

-- what stops an answer to a file hasn't the status of words
pub no_usage : (reader : Reader) (bytes : List ℕ) (stop : Stop) → IsAnswerBy (AnswersReader reader bytes) (Err stop) → status_of_stop stop ≡ 2 → ⊥
no_usage reader bytes (Refused refusal) h e = by_reader reader bytes (Err refusal) h e
no_usage reader bytes Memory h e = cc
no_usage reader bytes Read h e = absurd h
no_usage reader bytes Write h e = absurd h
