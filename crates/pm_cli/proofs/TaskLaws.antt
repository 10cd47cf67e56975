-- The laws of the commands from map files to texts, and the words of all commands.
use Rattle.std.proofs.Common.{◌≡◌, ℕ, ◌*◌, ◌/◌, ◌<◌, ◌≤◌, inl, inr, List, [], ◌∷◌, ◌++◌, length, refl, sym, ap, ◌∙◌, subst, arith}
use Rattle.std.specs.Prelude.{Some, Result, Ok, Err, codes}
use Rattle.std.proofs.lemmas.Bool.{cases_lt}
use Rattle.pm_limits.specs.declared.TheConstants.{MAX_EDGES, MAX_DEGREE}
use Rattle.pm_perm.proofs.LeastCases.{all_or_least}
use Rattle.pm_map.specs.declared.admitted.Degrees.{Degrees}
use Rattle.pm_map.specs.declared.admitted.Degrees.TheVariants.{Exactly, EvenUpTo}
use Rattle.pm_map.specs.declared.class_refusal.ClassRefusal.{ClassRefusal}
use Rattle.pm_map.specs.declared.class_refusal.ClassRefusal.TheVariants as class
use Rattle.pm_map.specs.Canonical.{IsCanonical}
use Rattle.pm_map.specs.ClassRules.{HasAdmittedDegree, AllAdmitted}
use Rattle.pm_map.specs.DualLaws.{IsDualOf}
use Rattle.pm_map.specs.Rotation.{RotationSystem, structure_of, IsRootedMap}
use Rattle.pm_map.specs.Structure.{Same}
use Rattle.pm_map.proofs.DegreeRules.{least_other_is_unique}
use Rattle.pm_map.proofs.DualMaps.{dual_is_rooted}
use Rattle.pm_map.proofs.SameMaps.{same_as_itself}
use Rattle.pm_map.proofs.UniqueCanonical.{canonical_map_is_rooted, canonical_map_is_unique}
use Rattle.pm_canon.proofs.ExistenceLemmas.{canonical_map_exists}
use Rattle.pm_medial.specs.Medial.{IsMedialMap, IsUnmedialOf}
use Rattle.pm_medial.proofs.OneMedial.{one_medial}
use Rattle.pm_medial.proofs.UnmedialLaws.{unmedials_tell, unmedial_is_four, each_quartic_has_unmedial}
use Rattle.pm_medial.proofs.WrittenLemmas.{medial_is_rooted}
use Rattle.pm_mapfile.specs.MapText.{IsMapText}
use Rattle.pm_mapfile.proofs.CanonicalTexts.{canonical_has_text}
use Rattle.pm_class.specs.Sampling.{HasOneAnswer, HasSomeAnswer}
use Rattle.pm_trees.specs.Blossoming.{IsBlossoming}
use Rattle.pm_reach.specs.Layers.{Layers as MapLayers, AreLayers}
use Rattle.pm_reach.proofs.OneLayers.{one_layers}
use Rattle.pm_reach.proofs.SomeLayers.{each_map_has_layers}
use Rattle.pm_open.proofs.KeptByOpening.{opened_degrees, opened_dart}
use Rattle.pm_open.proofs.SomeOpening.{each_map_opens}
use Rattle.pm_open.proofs.UniqueOpening.{one_opening}
use Rattle.pm_euler.proofs.QuarticMaps.{quartic_of_degrees}
use Rattle.pm_general.proofs.DualsOfMaps.{dual_map, dual_map_is}
use Rattle.pm_general.specs.General.{most_general_edges}
use Rattle.pm_general.proofs.GeneralClass.{medial_map, medial_map_is}
use Rattle.pm_cli.specs.declared.command.MapTask.{MapTask}
use Rattle.pm_cli.specs.declared.command.MapTask.TheVariants.{Canon, Medial, Unmedial, Dual, Layers}
use Rattle.pm_cli.specs.declared.command.Verb.{Verb}
use Rattle.pm_cli.specs.declared.command.Verb.TheVariants as verb
use Rattle.pm_cli.specs.Commands.{verb_word}
use Rattle.pm_cli.specs.MapAnswers.{MapRelation, HasCanonicalText, HasTextOf, HasNoDart, empty, HasOtherDegrees, no_dart, other_degree, task_relation, PrintsImage, counts_line, counting, HasOpenText, opening, layers_lines}
use Rattle.pm_cli.specs.TreeFile.{IsTreeLine}
use Rattle.pm_cli.proofs.MapRelations.{same_why, value_or_why, IsMapRelation}
use Rattle.pm_cli.proofs.OneText.{one_canonical_text, one_text}
use Rattle.pm_cli.proofs.WordTables.{looked_up, one_value}

-- the words of the verbs
abbrev verbs : List (List ℕ × Verb)
verbs =
    (codes "close", verb.Close) ∷ (codes "open", verb.Open) ∷ (codes "check", verb.Check) ∷ (codes "sample", verb.Sample) ∷ (codes "unsample", verb.Unsample) ∷ (codes "draw", verb.Draw)
    ∷ (codes "trip", verb.Trip) ∷ (codes "census", verb.Census)
    ∷ (codes "canon", verb.OfMap Canon) ∷ (codes "medial", verb.OfMap Medial) ∷ (codes "unmedial", verb.OfMap Unmedial) ∷ (codes "dual", verb.OfMap Dual) ∷ (codes "layers", verb.OfMap Layers) ∷ []

verb_found : (v : Verb) → looked_up verbs (verb_word v) ≡ Some v
verb_found verb.Close = refl
verb_found verb.Open = refl
verb_found verb.Check = refl
verb_found verb.Sample = refl
verb_found verb.Unsample = refl
verb_found verb.Draw = refl
verb_found verb.Trip = refl
verb_found verb.Census = refl
verb_found (verb.OfMap Canon) = refl
verb_found (verb.OfMap Medial) = refl
verb_found (verb.OfMap Unmedial) = refl
verb_found (verb.OfMap Dual) = refl
verb_found (verb.OfMap Layers) = refl

pub one_verb : (a b : Verb) → verb_word a ≡ verb_word b → a ≡ b
one_verb = one_value verbs verb_word verb_found

-- a rooted map has a canonical text
pub canonical_text : (m : RotationSystem) → IsRootedMap m → (text : List ℕ) × HasCanonicalText m text
canonical_text m rooted =
    let canonical = canonical_map_exists m rooted in
    let text = canonical_has_text canonical.0 canonical.1.is_canonical in
    (text.0, record { canonical = canonical.0; is_canonical = canonical.1; is_text = text.1 })

-- The laws of images of maps: they are the same up to the names of darts, and a map has an image or one reason why not.
record IsImage (image : RotationSystem → RotationSystem → Type 0) (refuses : RotationSystem → ClassRefusal → Type 0) (limit : ℕ) : Type 0 where
  alike : (m one other : RotationSystem) → IsRootedMap m → IsRootedMap one → IsRootedMap other → image m one → image m other → Same (structure_of one) (structure_of other)
  not_both : (m other : RotationSystem) (why : ClassRefusal) → IsRootedMap m → image m other → refuses m why → ⊥
  one_why : (m : RotationSystem) (v w : ClassRefusal) → refuses m v → refuses m w → v ≡ w
  some : (m : RotationSystem) → IsRootedMap m → length m.sigma ≤ 2 * limit → ((other : RotationSystem) → IsRootedMap other → image m other → ⊥)
      → ((why : ClassRefusal) → refuses m why → (why ≡ class.Memory → ⊥) → ⊥) → ⊥

-- so they have one text
printing_laws : (image : RotationSystem → RotationSystem → Type 0) (refuses : RotationSystem → ClassRefusal → Type 0) (limit : ℕ) → limit ≤ MAX_EDGES → IsImage image refuses limit
    → IsMapRelation (record { limit = limit; text_of = HasTextOf image; refuses = refuses })
printing_laws image refuses limit few is = record {
  few = few;
  one_text = λ m a b rooted x y. one_image_text m a b rooted x y;
  not_both = λ m text why rooted x y no_memory. is.not_both m x.other why rooted x.is_image y;
  one_why = λ m v w rooted x y no_memory none. is.one_why m v w x y;
  some = λ m rooted few told refused.
      is.some m rooted few (λ other also image. let text = canonical_text other also in told text.0 (record { other = other; rooted = also; is_image = image; is_text = text.1 })) refused;
} where
  one_image_text : (m : RotationSystem) (a b : List ℕ) → IsRootedMap m → HasTextOf image m a → HasTextOf image m b → a ≡ b
  one_image_text m a b rooted x y =
      one_canonical_text x.other y.other a b x.rooted y.rooted (is.alike m x.other y.other rooted x.rooted y.rooted x.is_image y.is_image) x.is_text y.is_text

-- equal maps are the same
pub same_map : (one other : RotationSystem) → one ≡ other → Same (structure_of one) (structure_of other)
same_map one other e = subst (λ (k : RotationSystem). Same (structure_of one) (structure_of k)) e (same_as_itself (structure_of one))

-- a map has a dart and vertices of such degrees, or one reason why not
module _ (degrees : Degrees) (m : RotationSystem) where
  one_degree : (v w : ClassRefusal) → HasOtherDegrees degrees m v → HasOtherDegrees degrees m w → v ≡ w
  one_degree _ _ (no_dart x) (no_dart y) = refl
  one_degree _ _ (no_dart x) (other_degree dart y) = absurd (omega (arith, y.within))
  one_degree _ _ (other_degree dart x) (no_dart y) = absurd (omega (arith, x.within))
  one_degree _ _ (other_degree dart x) (other_degree other y) = ap class.Vertex (least_other_is_unique (structure_of m) degrees dart other x y)

  not_other : (why : ClassRefusal) → 0 < length m.sigma → AllAdmitted (structure_of m) degrees → HasOtherDegrees degrees m why → ⊥
  not_other _ some all (no_dart none) = omega arith
  not_other _ some all (other_degree dart y) = y.breaks (all dart y.within)

  degrees_or_other : (0 < length m.sigma → AllAdmitted (structure_of m) degrees → ⊥) → ((why : ClassRefusal) → HasOtherDegrees degrees m why → (why ≡ class.Memory → ⊥) → ⊥) → ⊥
  degrees_or_other all other = elim (cases_lt 0 (length m.sigma)) [
    | inl some ↦ all_or_least (HasAdmittedDegree (structure_of m) degrees) (length m.sigma) (all some) (λ dart least. other (class.Vertex dart) (other_degree dart least) (λ e. cc))
    | inr none ↦ other class.Empty (no_dart (omega (arith, none))) (λ e. cc)
  ]

canon_image : IsImage (λ map other. other ≡ map) (λ map why. ⊥) MAX_EDGES
canon_image = record {
  alike = λ m one other rooted first second x y. same_map one other (x ∙ sym y);
  not_both = λ m other why rooted x y. y;
  one_why = λ m v w x y. absurd x;
  some = λ m rooted few told refused. told m rooted refl;
}

dual_image : IsImage IsDualOf (λ map why. ⊥) MAX_EDGES
dual_image = record {
  alike = λ m one other rooted first second is also. (
    λ d. d,
    record {
      darts = is.as_long ∙ sym also.as_long;
      renumbers = record { stays = λ k h. h; injective = λ j k hj hk e. e };
      next = λ d h. (let l : d < length m.sigma = omega (arith, h, is.as_long) in is.entry d l ∙ sym (also.entry d l));
      twin = λ d h. refl;
      root = λ some. is.root ∙ sym also.root;
    },
  );
  not_both = λ m other why rooted x y. y;
  one_why = λ m v w x y. absurd x;
  some = λ m rooted few told refused. told (dual_map m) (dual_is_rooted m (dual_map m) rooted (dual_map_is m)) (dual_map_is m);
}

medial_image : IsImage (λ map other. (0 < length map.sigma) × IsMedialMap map other) HasNoDart most_general_edges
medial_image = record {
  alike = λ m one other rooted first second x y. same_map one other (one_medial m one other rooted x.1 y.1);
  not_both = λ m other why rooted x y. some_dart m why x.0 y;
  one_why = one_empty;
  some = λ m rooted few told refused. elim (cases_lt 0 (length m.sigma)) [
    | inl some ↦ let is = medial_map_is m rooted in told (medial_map m) (medial_is_rooted m (medial_map m) rooted some (omega (arith, few)) is) (some, is)
    | inr none ↦ refused class.Empty (empty (omega (arith, none))) (λ e. cc)
  ];
} where
  some_dart : (m : RotationSystem) (why : ClassRefusal) → 0 < length m.sigma → HasNoDart m why → ⊥
  some_dart m _ some (empty none) = omega arith

  one_empty : (m : RotationSystem) (v w : ClassRefusal) → HasNoDart m v → HasNoDart m w → v ≡ w
  one_empty m _ _ (empty x) (empty y) = refl

unmedial_image : IsImage (λ map other. (0 < length map.sigma) × IsUnmedialOf (structure_of map) other) (HasOtherDegrees (Exactly 4)) MAX_EDGES
unmedial_image = record {
  alike = λ m one other rooted first second x y. (unmedials_tell m m one other rooted rooted x.1 y.1).0 (same_as_itself (structure_of m));
  not_both = λ m other why rooted x y. not_other (Exactly 4) m why x.0 (unmedial_is_four m other rooted x.0 x.1) y;
  one_why = λ m v w x y. one_degree (Exactly 4) m v w x y;
  some = λ m rooted few told refused. degrees_or_other (Exactly 4) m (unmedial_of m rooted told) refused;
} where
  unmedial_of : (m : RotationSystem) → IsRootedMap m → ((other : RotationSystem) → IsRootedMap other → (0 < length m.sigma) × IsUnmedialOf (structure_of m) other → ⊥)
      → 0 < length m.sigma → AllAdmitted (structure_of m) (Exactly 4) → ⊥
  unmedial_of m rooted told some all =
      let even = rooted.even in
      let quartic = quartic_of_degrees m (length m.sigma / 2) rooted (omega (arith, even)) (λ none. omega (arith, even, none, some)) all in
      let unmedial = each_quartic_has_unmedial m (length m.sigma / 2 / 2) rooted quartic in
      told unmedial.0 unmedial.1.rooted (some, unmedial.1)

-- a map has one text of its layers
layers_laws : IsMapRelation (task_relation Layers)
layers_laws = record {
  few = omega arith;
  one_text = λ m a b rooted x y.
      let same : x.canonical ≡ y.canonical = canonical_map_is_unique m x.canonical y.canonical rooted x.is_canonical y.is_canonical in
      let also : IsRootedMap y.canonical = canonical_map_is_rooted m y.canonical rooted y.is_canonical in
      let layers : x.layers ≡ y.layers = one_layers y.canonical x.layers y.layers also (subst (λ (k : RotationSystem). AreLayers k x.layers) same x.are_layers) y.are_layers in
      let map_text : x.map_text ≡ y.map_text = one_text y.canonical x.map_text y.map_text (subst (λ (k : RotationSystem). IsMapText k x.map_text) same x.is_map_text) y.is_map_text in
      x.whole ∙ ap (λ (l : MapLayers). x.map_text ++ layers_lines l) layers ∙ ap (λ (t : List ℕ). t ++ layers_lines y.layers) map_text ∙ sym y.whole;
  not_both = λ m text why rooted x y no_memory. y;
  one_why = λ m v w rooted x y no_memory none. absurd x;
  some = λ m rooted few told refused.
      let canonical = canonical_map_exists m rooted in
      let text = canonical_has_text canonical.0 canonical.1.is_canonical in
      let layers = each_map_has_layers canonical.0 (canonical_map_is_rooted m canonical.0 rooted canonical.1) in
      told _ (record {
        canonical = canonical.0;
        is_canonical = canonical.1;
        layers = layers.0;
        are_layers = layers.1;
        map_text = text.0;
        is_map_text = text.1;
        whole = refl;
      });
}

pub task_laws : (task : MapTask) → IsMapRelation (task_relation task)
task_laws Canon = printing_laws _ _ MAX_EDGES (omega arith) canon_image
task_laws Medial = printing_laws _ _ most_general_edges (omega arith) medial_image
task_laws Unmedial = printing_laws _ _ MAX_EDGES (omega arith) unmedial_image
task_laws Dual = printing_laws _ _ MAX_EDGES (omega arith) dual_image
task_laws Layers = layers_laws

-- the text of a canonical map
pub record IsPrinted (text : List ℕ) : Type 0 where
  pub map : RotationSystem
  pub rooted : IsRootedMap map
  pub canonical : IsCanonical map
  pub is_text : IsMapText map text

pub printed_text : (m : RotationSystem) (text : List ℕ) → IsRootedMap m → HasCanonicalText m text → IsPrinted text
printed_text m text rooted h = record {
  map = h.canonical;
  rooted = canonical_map_is_rooted m h.canonical rooted h.is_canonical;
  canonical = h.is_canonical.is_canonical;
  is_text = h.is_text;
}

-- what a task prints that prints the text of a map
pub printed_image : (task : MapTask) → PrintsImage task → (m : RotationSystem) (text : List ℕ) → (let relation : MapRelation = task_relation task in relation.text_of m text) → IsPrinted text
printed_image Canon is m text h = printed_text h.other text h.rooted h.is_text
printed_image Medial is m text h = printed_text h.other text h.rooted h.is_text
printed_image Unmedial is m text h = printed_text h.other text h.rooted h.is_text
printed_image Dual is m text h = printed_text h.other text h.rooted h.is_text
printed_image Layers is m text h = absurd is

-- a blossoming tree has a letter, since its root node has an even degree
some_letters : (word : List ℕ) → IsBlossoming word → 0 < length word
some_letters [] tree = let degree = tree.degrees 0 (inl refl) in let even = degree.even in absurd (omega (arith, even))
some_letters (letter ∷ word) tree = omega arith

pub opening_laws : IsMapRelation opening
opening_laws = record {
  few = omega arith;
  one_text = λ m a b rooted x y.
      let line = subst (λ (word : List ℕ). IsTreeLine word a) (one_opening m x.word y.word rooted x.opened y.opened) x.is_text in
      line.spelled ∙ sym y.is_text.spelled;
  not_both = λ m text why rooted x y no_memory. not_other (EvenUpTo MAX_DEGREE) m why (opened_dart m x.word x.opened) (opened_degrees m x.word rooted x.opened) y;
  one_why = λ m v w rooted x y no_memory none. one_degree (EvenUpTo MAX_DEGREE) m v w x y;
  some = λ m rooted few told refused. degrees_or_other (EvenUpTo MAX_DEGREE) m (opens m rooted told) refused;
} where
  opens : (m : RotationSystem) → IsRootedMap m → ((text : List ℕ) → HasOpenText m text → ⊥) → 0 < length m.sigma → AllAdmitted (structure_of m) (EvenUpTo MAX_DEGREE) → ⊥
  opens m rooted told some all =
      let open_map = each_map_opens m rooted some all in
      let tree = open_map.1.blossoming in
      told _ (record { word = open_map.0; opened = open_map.1; is_text = record { is = tree.in_order; some = some_letters open_map.0 tree; spelled = refl } })

-- the counts of maps of a class that answers each map
pub counting_laws : {Measure : Type 0} (most : ℕ) (answers : RotationSystem → Result Measure ClassRefusal → Type 0) → most ≤ MAX_EDGES → HasOneAnswer answers → HasSomeAnswer answers
    → IsMapRelation (counting most answers)
counting_laws {Measure} most answers le one some = record {
  few = le;
  one_text = λ m a b rooted x y. x.1 ∙ sym y.1;
  not_both = λ m text why rooted x y no_memory. value_or_why (one m (Ok x.0.0) (Err why) rooted x.0.1 y (λ e. value_or_why e) (λ e. no_memory (same_why e)));
  one_why = λ m v w rooted x y no_memory none. same_why (one m (Err v) (Err w) rooted x y (λ e. no_memory (same_why e)) (λ e. none (same_why e)));
  some = λ m rooted few told refused. some m rooted (told_or_refused m told refused);
} where
  told_or_refused : (m : RotationSystem) → ((text : List ℕ) → ((size : Measure) × answers m (Ok size)) × (text ≡ counts_line m) → ⊥)
      → ((why : ClassRefusal) → answers m (Err why) → (why ≡ class.Memory → ⊥) → ⊥) → (answer : Result Measure ClassRefusal) → answers m answer → (answer ≡ Err class.Memory → ⊥) → ⊥
  told_or_refused m told refused (Ok size) is no_memory = told (counts_line m) ((size, is), refl)
  told_or_refused m told refused (Err why) is no_memory = refused why is (λ e. no_memory (ap Err e))
