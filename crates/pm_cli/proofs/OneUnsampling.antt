-- The commands that unsample have one answer to a map file with its residue line.
use Rattle.std.proofs.Common.{◌≡◌, ℕ, List, ◌++◌, ◌∷◌, [], refl, sym, ap, ◌∙◌, subst}
use Rattle.std.specs.Prelude.{codes, Some, Result, Ok, Err}
use Rattle.pm_text.specs.Broken.{newline}
use Rattle.pm_lists.specs.declared.check.ListRefusal.{ListRefusal}
use Rattle.pm_lists.specs.ListLine.{list_line}
use Rattle.pm_lists.specs.Refusal.{IsRefusalOf}
use Rattle.pm_map.specs.declared.class_refusal.ClassRefusal.{ClassRefusal}
use Rattle.pm_map.specs.Rotation.{RotationSystem, IsRootedMap}
use Rattle.pm_map.proofs.UniqueCanonical.{canonical_map_is_unique}
use Rattle.pm_mapfile.specs.Answers.{IsSampleFileAnswer}
use Rattle.pm_mapfile.specs.MapFile.{IsSampleFile}
use Rattle.pm_mapfile.proofs.OneAnswer.{one_sample_answer}
use Rattle.pm_class.specs.declared.sample.UnsampleRefusal.{UnsampleRefusal}
use Rattle.pm_class.specs.declared.sample.UnsampleRefusal.TheVariants as pair
use Rattle.pm_class.specs.Unsampling.{IsUnsampling}
use Rattle.pm_cli.specs.declared.refusal.Refusal.{Refusal}
use Rattle.pm_cli.specs.Classes.{Sampler, InClass}
use Rattle.pm_cli.specs.Unsampling.{HasPair, MakesNoPair, RefusesSampleFile, rule_of_pair, HasUnsampledText, Unsamples, unsampled, no_map, refused}
use Rattle.pm_cli.specs.steps.ClassLaws.{IsSampler}
use Rattle.pm_cli.proofs.MapRelations.{IsRefusedFile, refused_file, one_refusal, read_or_refused, rooted_map, one_rule, is_rule, same_why, same_value, value_or_why}
use Rattle.pm_cli.proofs.OneSampling.{valid_or_refused, one_list_refusal}

-- a map and a residue have one answer, but for want of memory
abbrev pub HasOneUnsampling : (RotationSystem → List ℕ → Result (List ℕ) UnsampleRefusal → Type 0) → Type 0
HasOneUnsampling unsamples =
    (m : RotationSystem) (residue : List ℕ) (a b : Result (List ℕ) UnsampleRefusal) → IsRootedMap m → unsamples m residue a → unsamples m residue b
    → (a ≡ Err pair.Memory → ⊥) → (b ≡ Err pair.Memory → ⊥) → a ≡ b

-- so it is by the laws of a class
module _ (S : Sampler) (laws : IsSampler S) where
  abbrev Unsampled : RotationSystem → List ℕ → Result (List ℕ) UnsampleRefusal → Type 0
  Unsampled = IsUnsampling S.choice_limits S.residue_limits S.samples S.answers

  pub one_size : (m : RotationSystem) (a b : S.Measure) → IsRootedMap m → S.answers m (Ok a) → S.answers m (Ok b) → a ≡ b
  one_size m a b rooted x y = same_value (laws.one_answer m (Ok a) (Ok b) rooted x y (λ e. value_or_why e) (λ e. value_or_why e))

  one_unsampled : (m : RotationSystem) (residue a b : List ℕ) → IsRootedMap m → Unsampled m residue (Ok a) → Unsampled m residue (Ok b) → a ≡ b
  one_unsampled m residue a b rooted x y =
      let size = one_size m x.size y.size rooted x.in_class y.in_class in
      let canonical = canonical_map_is_unique m x.canonical y.canonical rooted x.is_canonical y.is_canonical in
      let given = subst (λ (k : RotationSystem). S.samples y.size a k residue) canonical (subst (λ (s : S.Measure). S.samples s a x.canonical residue) size x.given) in
      let admissible = ((laws.sized m y.size rooted).0 y.in_class).0 in
      let one = laws.one_to_one y.size admissible in
      one.one_list a b y.canonical residue given y.given

  not_in_class : (m : RotationSystem) (size : S.Measure) (why : ClassRefusal) → IsRootedMap m → S.answers m (Ok size) → Unsampled m [] (Err (pair.Class why)) → ⊥
  not_in_class m size why rooted x y = value_or_why (laws.one_answer m (Ok size) (Err why) rooted x y.0 (λ e. value_or_why e) (λ e. y.1 (same_why e)))

  pub not_wrong : (m : RotationSystem) (residue : List ℕ) (size : S.Measure) (refusal : ListRefusal) → IsRootedMap m → S.answers m (Ok size) → Unsampled m residue (Err (pair.List refusal))
      → IsRefusalOf residue (S.residue_limits size) refusal
  not_wrong m residue size refusal rooted x y = subst (λ (s : S.Measure). IsRefusalOf residue (S.residue_limits s) refusal) (one_size m y.0 size rooted y.1.0 x) y.1.1

  pub one_unsampling : HasOneUnsampling Unsampled
  one_unsampling m residue (Ok a) (Ok b) rooted x y p q = ap Ok (one_unsampled m residue a b rooted x y)
  one_unsampling m residue (Ok a) (Err (pair.Class why)) rooted x y p q = absurd (not_in_class m x.size why rooted x.in_class y)
  one_unsampling m residue (Ok a) (Err (pair.List refusal)) rooted x y p q =
      absurd (valid_or_refused residue (S.residue_limits x.size) refusal x.valid_residue (not_wrong m residue x.size refusal rooted x.in_class y))
  one_unsampling m residue (Ok a) (Err pair.Memory) rooted x y p q = absurd (q refl)
  one_unsampling m residue (Err (pair.Class why)) (Ok b) rooted x y p q = absurd (not_in_class m y.size why rooted y.in_class x)
  one_unsampling m residue (Err (pair.Class why)) (Err (pair.Class other)) rooted x y p q =
      ap (λ (w : ClassRefusal). Err (pair.Class w)) (same_why (laws.one_answer m (Err why) (Err other) rooted x.0 y.0 (λ e. x.1 (same_why e)) (λ e. y.1 (same_why e))))
  one_unsampling m residue (Err (pair.Class why)) (Err (pair.List refusal)) rooted x y p q = absurd (not_in_class m y.0 why rooted y.1.0 x)
  one_unsampling m residue (Err (pair.Class why)) (Err pair.Memory) rooted x y p q = absurd (q refl)
  one_unsampling m residue (Err (pair.List refusal)) (Ok b) rooted x y p q =
      absurd (valid_or_refused residue (S.residue_limits y.size) refusal y.valid_residue (not_wrong m residue y.size refusal rooted y.in_class x))
  one_unsampling m residue (Err (pair.List refusal)) (Err (pair.Class why)) rooted x y p q = absurd (not_in_class m x.0 why rooted x.1.0 y)
  one_unsampling m residue (Err (pair.List refusal)) (Err (pair.List other)) rooted x y p q =
      ap (λ (r : ListRefusal). Err (pair.List r)) (one_list_refusal residue (S.residue_limits y.0) refusal other (not_wrong m residue y.0 refusal rooted y.1.0 x) y.1.1)
  one_unsampling m residue (Err (pair.List refusal)) (Err pair.Memory) rooted x y p q = absurd (q refl)
  one_unsampling m residue (Err pair.Memory) b rooted x y p q = absurd (p refl)

refused_pair : (limit : ℕ) (bytes : List ℕ) (refusal : Refusal) → RefusesSampleFile limit bytes refusal → IsRefusedFile (IsSampleFileAnswer bytes limit) refusal
refused_pair limit bytes refusal h = refused_file IsSampleFile (MakesNoPair bytes limit) bytes (IsSampleFileAnswer bytes limit) (λ line broken. broken) (λ why made other. (made, other)) refusal h

-- a file doesn't make a map and none
pub not_both : (limit : ℕ) (Q : RotationSystem → List ℕ → Type 0) (bytes : List ℕ) (refusal : Refusal) → HasPair bytes limit Q → RefusesSampleFile limit bytes refusal → ⊥
not_both limit Q bytes refusal x y =
    read_or_refused (IsSampleFileAnswer bytes limit) (one_sample_answer bytes limit) (x.map, x.residue) refusal x.answered (refused_pair limit bytes refusal y)

-- it makes one map, a rooted one, and has one residue
pub record IsOnePair {bytes : List ℕ} {limit : ℕ} {Q R : RotationSystem → List ℕ → Type 0} (x : HasPair bytes limit Q) (y : HasPair bytes limit R) : Type 0 where
  pub holds : Q y.map y.residue
  pub rooted : IsRootedMap y.map

pub one_pair : (limit : ℕ) (Q R : RotationSystem → List ℕ → Type 0) (bytes : List ℕ) (x : HasPair bytes limit Q) (y : HasPair bytes limit R) → IsOnePair x y
one_pair limit Q R bytes x y =
    let same = same_value (one_sample_answer bytes limit (Ok (x.map, x.residue)) (Ok (y.map, y.residue)) x.answered y.answered (λ e. value_or_why e) (λ e. value_or_why e)) in
    record {
      holds = subst (λ (p : RotationSystem × List ℕ). Q p.0 p.1) same x.holds;
      rooted = rooted_map bytes limit (Some y.residue) y.map y.answered;
    }

-- what is unsampled once of each pair, is unsampled once of each file
module _ (class : InClass) (one : HasOneUnsampling class.unsamples) (bytes : List ℕ) where
  abbrev Text : List ℕ → RotationSystem → List ℕ → Type 0
  Text text m residue = HasUnsampledText (class.unsamples m residue) text

  abbrev Why : UnsampleRefusal → RotationSystem → List ℕ → Type 0
  Why why m residue = class.unsamples m residue (Err why)

  is_reason : (why : UnsampleRefusal) (refusal : Refusal) → rule_of_pair why ≡ Some refusal → ◌≡◌ {A = Result (List ℕ) UnsampleRefusal} (Err why) (Err pair.Memory) → ⊥
  is_reason why refusal rule e = is_rule rule_of_pair pair.Memory why refusal refl rule e

  one_text : (text other : List ℕ) → HasPair bytes class.most_edges (Text text) → HasPair bytes class.most_edges (Text other) → text ≡ other
  one_text text other x y =
      let same = one_pair class.most_edges (Text text) (Text other) bytes x y in
      let a = same.holds in
      let b = y.holds in
      let choices = same_value (one y.map y.residue (Ok a.choices) (Ok b.choices) same.rooted a.unsampled b.unsampled (λ e. value_or_why e) (λ e. value_or_why e)) in
      a.is_text.spelled ∙ ap (λ (c : List ℕ). list_line (codes "choices") c ++ newline ∷ []) choices ∙ sym b.is_text.spelled

  not_refused : (text : List ℕ) (why : UnsampleRefusal) (refusal : Refusal) → rule_of_pair why ≡ Some refusal → HasPair bytes class.most_edges (Text text) → HasPair bytes class.most_edges (Why why) → ⊥
  not_refused text why refusal rule x y =
      let same = one_pair class.most_edges (Text text) (Why why) bytes x y in
      let a = same.holds in
      value_or_why (one y.map y.residue (Ok a.choices) (Err why) same.rooted a.unsampled y.holds (λ e. value_or_why e) (is_reason why refusal rule))

  pub unsamples_once : (a b : Result (List ℕ) Refusal) → Unsamples class bytes a → Unsamples class bytes b → a ≡ b
  unsamples_once _ _ (unsampled text x) (unsampled other y) = ap Ok (one_text text other x y)
  unsamples_once _ _ (unsampled text x) (no_map refusal y) = absurd (not_both class.most_edges (Text text) bytes refusal x y)
  unsamples_once _ _ (unsampled text x) (refused refusal why rule y) = absurd (not_refused text why refusal rule x y)
  unsamples_once _ _ (no_map refusal x) (unsampled text y) = absurd (not_both class.most_edges (Text text) bytes refusal y x)
  unsamples_once _ _ (no_map refusal x) (no_map other y) =
      ap Err (one_refusal (IsSampleFileAnswer bytes class.most_edges) (one_sample_answer bytes class.most_edges) refusal other (refused_pair class.most_edges bytes refusal x) (refused_pair class.most_edges bytes other y))
  unsamples_once _ _ (no_map refusal x) (refused other why rule y) = absurd (not_both class.most_edges (Why why) bytes refusal y x)
  unsamples_once _ _ (refused refusal why rule x) (unsampled text y) = absurd (not_refused text why refusal rule y x)
  unsamples_once _ _ (refused refusal why rule x) (no_map other y) = absurd (not_both class.most_edges (Why why) bytes other x y)
  unsamples_once _ _ (refused refusal why rule x) (refused other reason told_by y) =
      let same = one_pair class.most_edges (Why why) (Why reason) bytes x y in
      ap Err (one_rule rule_of_pair why reason refusal other
      (same_why (one y.map y.residue (Err why) (Err reason) same.rooted same.holds y.holds (is_reason why refusal rule) (is_reason reason other told_by))) rule told_by)
