-- Words and bytes have one answer.
use Rattle.std.proofs.Common.{◌≡◌, ℕ, List, refl, ap, subst, arith}
use Rattle.std.specs.Prelude.{Result, Err}
use Rattle.pm_class.specs.OneToOne.{AreOneToOne}
use Rattle.pm_cli.specs.declared.class.Class.{Class}
use Rattle.pm_cli.specs.declared.class.Size.{Size}
use Rattle.pm_cli.specs.declared.command.Command.TheVariants.{Reads, Makes}
use Rattle.pm_cli.specs.declared.command.Maker.{Maker}
use Rattle.pm_cli.specs.declared.command.Maker.TheVariants.{Draw, Trip, Census}
use Rattle.pm_cli.specs.declared.command.Reader.{Reader}
use Rattle.pm_cli.specs.declared.command.Reader.TheVariants.{Close, OpenEulerian, OfMap, Check, Unsample, Sample}
use Rattle.pm_cli.specs.declared.refusal.Refusal.{Refusal}
use Rattle.pm_cli.specs.declared.refusal.Refusal.TheVariants.{Usage}
use Rattle.pm_cli.specs.Answer.{AnswersReader, AnswersSize, no_command, too_long, of_file, of_size}
use Rattle.pm_cli.specs.Classes.{sampler_of, AtSize, sized, IsSize, InClass, class_at, counts_of}
use Rattle.pm_cli.specs.Commands.{IsReader}
use Rattle.pm_cli.specs.Laws.{HasOneAnswer}
use Rattle.pm_cli.specs.MapAnswers.{task_relation, opening}
use Rattle.pm_cli.specs.TreeKinds.{kind_of}
use Rattle.pm_cli.proofs.CensusRecords.{counts_once}
use Rattle.pm_cli.proofs.ClassLaws.{AreSamplers, sized_laws, count_laws}
use Rattle.pm_cli.proofs.CommandWords.{one_command}
use Rattle.pm_cli.proofs.OneClosing.{closes_once}
use Rattle.pm_cli.proofs.MapRelations.{map_answers_once}
use Rattle.pm_cli.proofs.TaskLaws.{task_laws, opening_laws}
use Rattle.pm_cli.proofs.TreeLines.{kind_laws}
use Rattle.pm_cli.proofs.OneSampling.{samples_once, draws_once, trips_once}
use Rattle.pm_cli.proofs.OneUnsampling.{HasOneUnsampling, one_unsampling, unsamples_once}

pub same_reader : {r s : Reader} → Reads r ≡ Reads s → r ≡ s
same_reader e = cc

pub reads_or_makes : {r : Reader} {t : Maker} {s : Size} → Reads r ≡ Makes t s → ⊥
reads_or_makes e = cc

module _ (laws : AreSamplers) where
  one_at : (size : Size) → IsSize size → (let at : AtSize = sized size in AreOneToOne at.choice_limits at.residue_limits at.has at.samples)
  one_at size is = let at = sized_laws laws size is in at.one_to_one

  one_pair : (c : Class) → HasOneUnsampling (let at : InClass = class_at c in at.unsamples)
  one_pair c = one_unsampling (sampler_of c) (laws c)

  -- a command has one answer to a file
  reads_once : (reader : Reader) → IsReader reader → (bytes : List ℕ) (a b : Result (List ℕ) Refusal) → AnswersReader reader bytes a → AnswersReader reader bytes b → a ≡ b
  reads_once (Close trees) is bytes a b x y = closes_once (kind_of trees) (kind_laws trees) bytes a b x y
  reads_once OpenEulerian is bytes a b x y = map_answers_once opening opening_laws bytes a b x y
  reads_once (OfMap task) is bytes a b x y = map_answers_once (task_relation task) (task_laws task) bytes a b x y
  reads_once (Check class) is bytes a b x y = map_answers_once (counts_of class) (count_laws laws class) bytes a b x y
  reads_once (Unsample class) is bytes a b x y = unsamples_once (class_at class) (one_pair class) bytes a b x y
  reads_once (Sample size) is bytes a b x y = let one = one_at size is in samples_once (sized size) one.one_sample (λ c m r h. let only = one.only c m r h in only.valid) bytes a b x y

  -- and one to a size
  makes_once : (task : Maker) (size : Size) → IsSize size → (a b : Result (List ℕ) Refusal) → AnswersSize task (sized size) a → AnswersSize task (sized size) b → a ≡ b
  makes_once (Draw seed count) size is a b x y = let one = one_at size is in draws_once (sized size) one.one_sample (λ c m r h. let only = one.only c m r h in only.valid) seed count a b x y
  makes_once (Trip seed) size is a b x y = let one = one_at size is in trips_once (sized size) one.one_sample seed a b x y
  makes_once Census size is a b x y = let at : AtSize = sized size in let one = one_at size is in counts_once at.choice_limits at.samples one.one_sample a b x y

  same_task : {t u : Maker} {r s : Size} → Makes t r ≡ Makes u s → t ≡ u
  same_task e = cc

  same_size : {t u : Maker} {r s : Size} → Makes t r ≡ Makes u s → r ≡ s
  same_size e = cc

  pub has_one_answer : HasOneAnswer
  has_one_answer words bytes _ _ (no_command k x) (no_command j y) = ap (λ (m : ℕ). Err (Usage m)) (omega (arith, x.greatest j y.begins, y.greatest k x.begins))
  has_one_answer words bytes _ _ (no_command k x) (too_long reader y _) = absurd (x.none (Reads reader) y)
  has_one_answer words bytes _ _ (no_command k x) (of_file reader y _ _ _) = absurd (x.none (Reads reader) y)
  has_one_answer words bytes _ _ (no_command k x) (of_size task size y _ _) = absurd (x.none (Makes task size) y)
  has_one_answer words bytes _ _ (too_long reader x _) (no_command k y) = absurd (y.none (Reads reader) x)
  has_one_answer words bytes _ _ (of_file reader x _ _ _) (no_command k y) = absurd (y.none (Reads reader) x)
  has_one_answer words bytes _ _ (of_size task size x _ _) (no_command k y) = absurd (y.none (Makes task size) x)
  has_one_answer words bytes _ _ (too_long reader x _) (too_long other y _) = refl
  has_one_answer words bytes _ _ (too_long reader x long) (of_file other y short _ _) = absurd (omega arith)
  has_one_answer words bytes _ _ (of_file other x short _ _) (too_long reader y long) = absurd (omega arith)
  has_one_answer words bytes _ _ (too_long reader x _) (of_size task size y _ _) = absurd (reads_or_makes (one_command words (Reads reader) (Makes task size) x y))
  has_one_answer words bytes _ _ (of_size task size x _ _) (too_long reader y _) = absurd (reads_or_makes (one_command words (Reads reader) (Makes task size) y x))
  has_one_answer words bytes _ _ (of_file reader x _ _ _) (of_size task size y _ _) = absurd (reads_or_makes (one_command words (Reads reader) (Makes task size) x y))
  has_one_answer words bytes _ _ (of_size task size x _ _) (of_file reader y _ _ _) = absurd (reads_or_makes (one_command words (Reads reader) (Makes task size) y x))
  has_one_answer words bytes _ _ (of_file reader x _ a h) (of_file other y _ b i) =
      let same = same_reader (one_command words (Reads other) (Reads reader) y x) in
      reads_once reader x.is_command bytes a b h (subst (λ (r : Reader). AnswersReader r bytes b) same i)
  has_one_answer words bytes _ _ (of_size task size x a h) (of_size other measure y b i) =
      let same = one_command words (Makes other measure) (Makes task size) y x in
      makes_once task size (let is = x.is_command in is.1) a b h
      (subst (λ (t : Maker). AnswersSize t (sized size) b) (same_task same) (subst (λ (s : Size). AnswersSize other (sized s) b) (same_size same) i))
