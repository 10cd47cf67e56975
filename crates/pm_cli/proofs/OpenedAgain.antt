-- `open eulerian` undoes `close eulerian`, and `close eulerian` undoes `open eulerian` up to the names of darts.
use Rattle.std.proofs.Common.{◌≡◌, ℕ, ◌≤◌, List, [], ◌∷◌, ◌++◌, length, length-append, refl, ap, subst, arith}
use Rattle.std.specs.Prelude.{codes, None, Result, Ok}
use Rattle.std.proofs.lemmas.List.{append-nil}
use Rattle.pm_io.specs.declared.TheConstants.{MAX_BYTES}
use Rattle.pm_limits.specs.declared.TheConstants.{MAX_EDGES}
use Rattle.pm_text.specs.Broken.{newline}
use Rattle.pm_map.specs.Rotation.{RotationSystem, structure_of}
use Rattle.pm_map.proofs.SameMaps.{same_symmetric, same_transitive}
use Rattle.pm_map.proofs.UniqueCanonical.{canonical_map_is_rooted}
use Rattle.pm_mapfile.specs.Answers.{AnswersFile}
use Rattle.pm_mapfile.proofs.ReadAgainLemmas.{map_file_is_read_again}
use Rattle.pm_close.proofs.PlaneMap.{rooted_closure}
use Rattle.pm_cli.specs.declared.refusal.Refusal.{Refusal}
use Rattle.pm_cli.specs.Answer.{AnswersReader}
use Rattle.pm_cli.specs.Laws.{ClosedTreesOpen, OpenedMapsClose}
use Rattle.pm_cli.specs.Closing.{ClosesTo, ClosesFile, closed, broken, refused}
use Rattle.pm_cli.specs.MapAnswers.{HasMap, MapRelation, AnswersMap, told, no_map, breaks, HasCanonicalText, HasOpenText, task_relation, opening}
use Rattle.pm_cli.specs.TreeFile.{HasWord}
use Rattle.pm_cli.specs.TreeKinds.{TreeKind, blossoming_trees}
use Rattle.pm_cli.specs.declared.command.MapTask.TheVariants.{Canon}
use Rattle.pm_cli.specs.declared.command.Reader.TheVariants.{OpenEulerian, OfMap}
use Rattle.pm_cli.proofs.MapRelations.{one_map}

same_text : {a b : List ℕ} → ◌≡◌ {A = Result (List ℕ) Refusal} (Ok a) (Ok b) → a ≡ b
same_text e = cc

-- what is answered by a text to a map file, is told to its map
pub told_map : (relation : MapRelation) (bytes text : List ℕ) (answer : Result (List ℕ) Refusal) → AnswersMap relation bytes answer → answer ≡ Ok text
    → HasMap bytes relation.limit (λ m. relation.text_of m text)
told_map relation bytes text _ (told other h) e = subst (λ (t : List ℕ). HasMap bytes relation.limit (λ m. relation.text_of m t)) (same_text e) h
told_map relation bytes text _ (no_map refusal h) e = cc
told_map relation bytes text _ (breaks refusal why rule h) e = cc

-- so is the canonical text that `canon` answers
pub canon_map : (bytes text : List ℕ) → AnswersReader (OfMap Canon) bytes (Ok text) → HasMap bytes MAX_EDGES (λ m. HasCanonicalText m text)
canon_map bytes text canonizes =
    let x = told_map (task_relation Canon) bytes text (Ok text) canonizes refl in
    let of = x.holds in
    record { residue = x.residue; map = x.map; answered = x.answered; holds = subst (λ (m : RotationSystem). HasCanonicalText m text) of.is_image of.is_text }

pub closed_word : (kind : TreeKind) (bytes text : List ℕ) (answer : Result (List ℕ) Refusal) → ClosesFile kind bytes answer → answer ≡ Ok text → HasWord kind bytes (ClosesTo kind text)
closed_word kind bytes text _ (closed other h) e = subst (λ (t : List ℕ). HasWord kind bytes (ClosesTo kind t)) (same_text e) h
closed_word kind bytes text _ (broken line h) e = cc
closed_word kind bytes text _ (refused refusal h) e = cc

-- the text of a closed tree is a map file, and its map opens to the tree
pub opened_again : ClosedTreesOpen AnswersReader
opened_again bytes text is =
    let closes = closed_word blossoming_trees bytes text (Ok text) is refl in
    let closing = closes.holds in
    let tree = closing.is_closed in
    let has = closing.has_text in
    let rooted = rooted_closure closes.word closing.closed tree.blossoming tree.balanced tree.is_closed in
    let canonical = canonical_map_is_rooted closing.closed has.canonical rooted has.is_canonical in
    told bytes (record {
      residue = None;
      map = has.canonical;
      answered =
          subst (λ (file : List ℕ). AnswersFile file MAX_EDGES None (Ok has.canonical)) (append-nil text)
          (map_file_is_read_again has.canonical MAX_EDGES text [] None canonical canonical.few has.is_text (record { fit = tt; spelled = refl }));
      holds = record {
        word = closes.word;
        opened = record {
          blossoming = tree.blossoming;
          balanced = tree.balanced;
          closure = closing.closed;
          is_closure = tree.is_closed;
          same = same_symmetric (structure_of closing.closed) (structure_of has.canonical) rooted.structure has.is_canonical.is_same;
        };
        is_text = closes.spelled;
      };
    })

-- the tree of an opened map closes to the same map, whose canonical map is that of the map
pub closed_again : OpenedMapsClose AnswersReader
closed_again bytes text canonical opens canonizes =
    let x = told_map opening bytes text (Ok text) opens refl in
    let y = canon_map bytes canonical canonizes in
    let same = one_map MAX_EDGES (λ m. HasOpenText m text) (λ m. HasCanonicalText m canonical) bytes x y in
    let tree = subst (λ (m : RotationSystem). HasOpenText m text) same.0 x.holds in
    let map : RotationSystem = y.map in
    let is = tree.opened in
    let has = y.holds in
    let back = same_symmetric (structure_of map) (structure_of is.closure) same.1.structure is.same in
    closed canonical (record {
      word = tree.word;
      spelled = tree.is_text;
      holds = record {
        closed = is.closure;
        is_closed = record { blossoming = is.blossoming; balanced = is.balanced; is_closed = is.is_closure };
        has_text = record {
          canonical = has.canonical;
          is_canonical = record {
            is_canonical = has.is_canonical.is_canonical;
            is_same = same_transitive (structure_of is.closure) (structure_of map) (structure_of has.canonical) back has.is_canonical.is_same;
          };
          is_text = has.is_text;
        };
      };
    })

-- a tree file of an opening is within the limit of bytes
pub opened_within : (bytes text : List ℕ) → AnswersReader OpenEulerian bytes (Ok text) → length text ≤ MAX_BYTES
opened_within bytes text opens =
    let x = told_map opening bytes text (Ok text) opens refl in
    let tree = x.holds in
    let short = tree.opened.blossoming.short in
    omega (arith, short, ap length tree.is_text.spelled, length-append (codes "tree ") (tree.word ++ newline ∷ []), length-append tree.word (newline ∷ []))
