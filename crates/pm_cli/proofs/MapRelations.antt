-- The commands from a map file to a text have one answer to it, and no map file is without one.
use Rattle.std.proofs.Common.{◌≡◌, ℕ, ◌*◌, ◌≤◌, List, length, refl, sym, ap, ◌∙◌, subst, arith}
use Rattle.std.specs.Prelude.{Option, None, Some, Result, Ok, Err}
use Rattle.pm_limits.specs.declared.TheConstants.{MAX_EDGES}
use Rattle.pm_text.specs.Broken.{IsBrokenLine}
use Rattle.pm_map.specs.declared.refusal.MapRefusal.{MapRefusal}
use Rattle.pm_map.specs.declared.refusal.MapRefusal.TheVariants as made
use Rattle.pm_map.specs.declared.class_refusal.ClassRefusal.{ClassRefusal}
use Rattle.pm_map.specs.declared.class_refusal.ClassRefusal.TheVariants as class
use Rattle.pm_map.specs.Rotation.{RotationSystem, IsRootedMap}
use Rattle.pm_map.specs.declared.rooted_map.RootedMap.{RootedMap}
use Rattle.pm_mapfile.specs.declared.refusal.FileRefusal.{FileRefusal}
use Rattle.pm_mapfile.specs.declared.refusal.FileRefusal.TheVariants as reading
use Rattle.pm_mapfile.specs.MapFile.{IsMapFile}
use Rattle.pm_mapfile.specs.Answers.{AnswersFile, IsMapFileAnswer}
use Rattle.pm_mapfile.proofs.OneAnswer.{one_file_answer}
use Rattle.pm_mapfile.proofs.SomeAnswer.{some_answer}
use Rattle.pm_cli.specs.declared.refusal.Refusal.{Refusal}
use Rattle.pm_cli.specs.MapAnswers.{HasMap, MakesNoMap, rule_of_lines, rule_of_class, RefusesFile, broken, makes_none, RefusesMapFile, MapRelation, AnswersMap, told, no_map, breaks}
use Rattle.pm_cli.specs.steps.MapReading.{rule_of_file}
use Rattle.pm_cli.specs.declared.refusal.Limit.TheVariants.{Edges}
use Rattle.pm_cli.specs.declared.refusal.MapRule.TheVariants.{Permutation, Connected, Euler, Empty, Vertex, Face, Loop, Double}
use Rattle.pm_cli.specs.declared.refusal.Refusal.TheVariants.{Text, Limited, Map}
use Rattle.pm_cli.specs.Laws.{IsAnswered}

-- the map of a map file is a rooted map
pub rooted_map : (bytes : List ℕ) (limit : ℕ) (residue : Option (List ℕ)) (m : RotationSystem) → AnswersFile bytes limit residue (Ok m) → IsRootedMap m
rooted_map bytes limit residue m h = subst IsRootedMap (sym h.answered.answered.0) h.answered.answered.1

pub same_some : {X : Type 0} {a b : X} → Some a ≡ Some b → a ≡ b
same_some e = cc

pub none_some : {X : Type 0} {a : X} → None ≡ Some a → ⊥
none_some e = cc

pub same_why : {X Y : Type 0} {f g : Y} → ◌≡◌ {A = Result X Y} (Err f) (Err g) → f ≡ g
same_why e = cc

pub same_value : {X Y : Type 0} {a b : X} → ◌≡◌ {A = Result X Y} (Ok a) (Ok b) → a ≡ b
same_value e = cc

pub value_or_why : {X Y : Type 0} {a : X} {f : Y} → ◌≡◌ {A = Result X Y} (Ok a) (Err f) → ⊥
value_or_why e = cc

-- one reason is told by one rule, and want of memory by none
pub one_rule : {Why : Type 0} (rule_of : Why → Option Refusal) (why other : Why) (a b : Refusal) → why ≡ other → rule_of why ≡ Some a → rule_of other ≡ Some b → a ≡ b
one_rule rule_of why other a b e x y = same_some (sym x ∙ ap rule_of e ∙ y)

pub is_rule : {X Why : Type 0} (rule_of : Why → Option Refusal) (memory why : Why) (refusal : Refusal) → rule_of memory ≡ None → rule_of why ≡ Some refusal
    → ◌≡◌ {A = Result X Why} (Err why) (Err memory) → ⊥
is_rule rule_of memory why refusal none rule e = none_some (sym none ∙ ap rule_of (sym (same_why e)) ∙ rule)

-- a refused file, by the answers of the code that reads it
pub record IsRefusedFile {Read : Type 0} (answers : Result Read FileRefusal → Type 0) (refusal : Refusal) : Type 0 where
  pub why : FileRefusal
  pub is : rule_of_file why ≡ Some refusal
  pub answered : answers (Err why)

pub refused_file : {Read : Type 0} (form : List ℕ → Type 0) (makes_no_map : MapRefusal → Type 0) (bytes : List ℕ) (answers : Result Read FileRefusal → Type 0)
    → ((line : ℕ) → IsBrokenLine form bytes line → answers (Err (reading.Text line)))
    → ((why : MapRefusal) → makes_no_map why → (why ≡ made.Memory → ⊥) → answers (Err (reading.Map why)))
    → (refusal : Refusal) → RefusesFile form makes_no_map bytes refusal → IsRefusedFile answers refusal
refused_file form makes_no_map bytes answers text none _ (broken line h) = record { why = reading.Text line; is = refl; answered = text line h }
refused_file form makes_no_map bytes answers text none _ (makes_none refusal why rule h) =
    record { why = reading.Map why; is = rule; answered = none why h (λ e. none_some (ap rule_of_lines (sym e) ∙ rule)) }

-- one reading of a file is refused for one reason
pub one_refusal : {Read : Type 0} (answers : Result Read FileRefusal → Type 0)
    → ((first second : Result Read FileRefusal) → answers first → answers second → (first ≡ Err reading.Memory → ⊥) → (second ≡ Err reading.Memory → ⊥) → first ≡ second)
    → (a b : Refusal) → IsRefusedFile answers a → IsRefusedFile answers b → a ≡ b
one_refusal answers one a b x y =
    one_rule rule_of_file x.why y.why a b
    (same_why (one (Err x.why) (Err y.why) x.answered y.answered (is_rule rule_of_file reading.Memory x.why a refl x.is) (is_rule rule_of_file reading.Memory y.why b refl y.is)))
    x.is y.is

-- what was read, or why not, and not both
pub read_or_refused : {Read : Type 0} (answers : Result Read FileRefusal → Type 0)
    → ((first second : Result Read FileRefusal) → answers first → answers second → (first ≡ Err reading.Memory → ⊥) → (second ≡ Err reading.Memory → ⊥) → first ≡ second)
    → (read : Read) (refusal : Refusal) → answers (Ok read) → IsRefusedFile answers refusal → ⊥
read_or_refused answers one read refusal x y =
    value_or_why (one (Ok read) (Err y.why) x y.answered (λ e. value_or_why e) (is_rule rule_of_file reading.Memory y.why refusal refl y.is))

refused_map : (limit : ℕ) (bytes : List ℕ) (refusal : Refusal) → RefusesMapFile limit bytes refusal → IsRefusedFile (IsMapFileAnswer bytes limit) refusal
refused_map limit bytes refusal h = refused_file IsMapFile (MakesNoMap bytes limit) bytes (IsMapFileAnswer bytes limit) (λ line broken. broken) (λ why made other. (made, other)) refusal h

-- a file doesn't make a map and none
not_both : (limit : ℕ) (Q : RotationSystem → Type 0) (bytes : List ℕ) (refusal : Refusal) → HasMap bytes limit Q → RefusesMapFile limit bytes refusal → ⊥
not_both limit Q bytes refusal x y =
    read_or_refused (IsMapFileAnswer bytes limit) (one_file_answer bytes limit) (x.map, x.residue) refusal x.answered (refused_map limit bytes refusal y)

-- it makes one map, a rooted one
pub one_map : (limit : ℕ) (Q R : RotationSystem → Type 0) (bytes : List ℕ) (x : HasMap bytes limit Q) (y : HasMap bytes limit R) → (x.map ≡ y.map) × IsRootedMap y.map
one_map limit Q R bytes x y = (
  ap (λ (read : RotationSystem × Option (List ℕ)). read.0)
      (same_value (one_file_answer bytes limit (Ok (x.map, x.residue)) (Ok (y.map, y.residue)) x.answered y.answered (λ e. value_or_why e) (λ e. value_or_why e))),
  rooted_map bytes limit y.residue y.map y.answered,
)

-- The laws of what is answered to maps: a rooted map has one text, or one reason why not, and not both, and isn't without
-- either, where it has no more edges than the limit. Want of memory is no reason.
pub record IsMapRelation (relation : MapRelation) : Type 0 where
  pub few : relation.limit ≤ MAX_EDGES
  pub one_text : (m : RotationSystem) (a b : List ℕ) → IsRootedMap m → relation.text_of m a → relation.text_of m b → a ≡ b
  pub not_both : (m : RotationSystem) (text : List ℕ) (why : ClassRefusal) → IsRootedMap m → relation.text_of m text → relation.refuses m why → (why ≡ class.Memory → ⊥) → ⊥
  pub one_why : (m : RotationSystem) (v w : ClassRefusal) → IsRootedMap m → relation.refuses m v → relation.refuses m w → (v ≡ class.Memory → ⊥) → (w ≡ class.Memory → ⊥) → v ≡ w
  pub some : (m : RotationSystem) → IsRootedMap m → length m.sigma ≤ 2 * relation.limit → ((text : List ℕ) → relation.text_of m text → ⊥)
      → ((why : ClassRefusal) → relation.refuses m why → (why ≡ class.Memory → ⊥) → ⊥) → ⊥

-- a reason that a rule tells of is not want of memory
pub no_memory : (why : ClassRefusal) (refusal : Refusal) → rule_of_class why ≡ Some refusal → why ≡ class.Memory → ⊥
no_memory why refusal rule e = none_some (ap rule_of_class (sym e) ∙ rule)

-- what is answered once to each map, is answered once to each map file
module _ (relation : MapRelation) (is : IsMapRelation relation) (bytes : List ℕ) where
  told_or_breaks : (text : List ℕ) (refusal : Refusal) (why : ClassRefusal) → rule_of_class why ≡ Some refusal → HasMap bytes relation.limit (λ m. relation.text_of m text)
      → HasMap bytes relation.limit (λ m. relation.refuses m why) → ⊥
  told_or_breaks text refusal why rule x y =
      let same = one_map relation.limit (λ m. relation.text_of m text) (λ m. relation.refuses m why) bytes x y in
      is.not_both y.map text why same.1 (subst (λ (m : RotationSystem). relation.text_of m text) same.0 x.holds) y.holds (no_memory why refusal rule)

  pub map_answers_once : (a b : Result (List ℕ) Refusal) → AnswersMap relation bytes a → AnswersMap relation bytes b → a ≡ b
  map_answers_once _ _ (told text x) (told other y) =
      let same = one_map relation.limit (λ m. relation.text_of m text) (λ m. relation.text_of m other) bytes x y in
      ap Ok (is.one_text y.map text other same.1 (subst (λ (m : RotationSystem). relation.text_of m text) same.0 x.holds) y.holds)
  map_answers_once _ _ (told text x) (no_map refusal y) = absurd (not_both relation.limit (λ m. relation.text_of m text) bytes refusal x y)
  map_answers_once _ _ (told text x) (breaks refusal why rule y) = absurd (told_or_breaks text refusal why rule x y)
  map_answers_once _ _ (no_map refusal x) (told text y) = absurd (not_both relation.limit (λ m. relation.text_of m text) bytes refusal y x)
  map_answers_once _ _ (no_map refusal x) (no_map other y) =
      ap Err (one_refusal (IsMapFileAnswer bytes relation.limit) (one_file_answer bytes relation.limit) refusal other (refused_map relation.limit bytes refusal x) (refused_map relation.limit bytes other y))
  map_answers_once _ _ (no_map refusal x) (breaks other why rule y) = absurd (not_both relation.limit (λ m. relation.refuses m why) bytes refusal y x)
  map_answers_once _ _ (breaks refusal why rule x) (told text y) = absurd (told_or_breaks text refusal why rule y x)
  map_answers_once _ _ (breaks refusal why rule x) (no_map other y) = absurd (not_both relation.limit (λ m. relation.refuses m why) bytes other x y)
  map_answers_once _ _ (breaks refusal why rule x) (breaks other reason told_by y) =
      let same = one_map relation.limit (λ m. relation.refuses m why) (λ m. relation.refuses m reason) bytes x y in
      let one = is.one_why y.map why reason same.1 (subst (λ (m : RotationSystem). relation.refuses m why) same.0 x.holds) y.holds (no_memory why refusal rule) (no_memory reason other told_by) in
      ap Err (one_rule rule_of_class why reason refusal other one rule told_by)

-- each reason but want of memory is told by a rule
pub rule_of_lines_is : (why : MapRefusal) → (why ≡ made.Memory → ⊥) → (refusal : Refusal) × (rule_of_lines why ≡ Some refusal)
rule_of_lines_is made.Memory memory = absurd (memory refl)
rule_of_lines_is (made.TooMany edges) memory = (Limited (Edges edges), refl)
rule_of_lines_is (made.NotPermutation dart) memory = (Map (Permutation dart), refl)
rule_of_lines_is (made.NotConnected dart) memory = (Map (Connected dart), refl)
rule_of_lines_is (made.Genus euler) memory = (Map (Euler euler), refl)

pub rule_of_class_is : (why : ClassRefusal) → (why ≡ class.Memory → ⊥) → (refusal : Refusal) × (rule_of_class why ≡ Some refusal)
rule_of_class_is class.Memory memory = absurd (memory refl)
rule_of_class_is class.Empty memory = (Map Empty, refl)
rule_of_class_is (class.TooMany edges) memory = (Limited (Edges edges), refl)
rule_of_class_is (class.Vertex dart) memory = (Map (Vertex dart), refl)
rule_of_class_is (class.Face dart) memory = (Map (Face dart), refl)
rule_of_class_is (class.Loop dart) memory = (Map (Loop dart), refl)
rule_of_class_is (class.Double dart) memory = (Map (Double dart), refl)

-- the map of a file has no more edges than the limit
pub map_is_few : (bytes : List ℕ) (limit : ℕ) (residue : Option (List ℕ)) (m : RotationSystem) → AnswersFile bytes limit residue (Ok m) → length m.sigma ≤ 2 * limit
map_is_few bytes limit residue m file =
    let told = file.answered in
    omega (arith, told.few, told.is_rotation.size, file.are_lines.count, ap (λ (k : RotationSystem). length k.sigma) told.answered.0)

module _ (relation : MapRelation) (laws : IsMapRelation relation) (bytes : List ℕ) (answered : (answer : Result (List ℕ) Refusal) → AnswersMap relation bytes answer → ⊥) where
  of_file : (answer : Result (RootedMap × Option (List ℕ)) FileRefusal) → IsMapFileAnswer bytes relation.limit answer → (answer ≡ Err reading.Memory → ⊥) → ⊥
  of_file (Ok read) file memory =
      laws.some read.0 (rooted_map bytes relation.limit read.1 read.0 file) (map_is_few bytes relation.limit read.1 read.0 file)
      (λ text is. answered (Ok text) (told text (record { residue = read.1; map = read.0; answered = file; holds = is })))
      (λ why is no_memory.
      let rule = rule_of_class_is why no_memory in
      answered (Err rule.0) (breaks rule.0 why rule.1 (record { residue = read.1; map = read.0; answered = file; holds = is })))
  of_file (Err (reading.Text line)) is memory = answered (Err (Text line)) (no_map (Text line) (broken line is))
  of_file (Err (reading.Map why)) is memory = let rule = rule_of_lines_is why is.1 in answered (Err rule.0) (no_map rule.0 (makes_none rule.0 why rule.1 is.0))
  of_file (Err reading.Memory) is memory = memory refl

pub map_answered : (relation : MapRelation) → IsMapRelation relation → (bytes : List ℕ) → IsAnswered (AnswersMap relation bytes)
map_answered relation laws bytes answered = some_answer (λ (read : Option (List ℕ)). read) bytes relation.limit laws.few (of_file relation laws bytes answered)
