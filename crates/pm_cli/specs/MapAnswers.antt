-- What the commands from a map file to a text answer.
use Rattle.std.specs.Prelude.{◌≡◌, ℕ, ◌<◌, List, [], ◌∷◌, ◌++◌, length, Option, None, Some, Result, Ok, Err, codes, decimal, ⊤}
use Rattle.pm_limits.specs.declared.TheConstants.{MAX_EDGES, MAX_DEGREE}
use Rattle.pm_text.specs.Broken.{newline, IsBrokenLine}
use Rattle.pm_map.specs.declared.admitted.Degrees.{Degrees}
use Rattle.pm_map.specs.declared.admitted.Degrees.TheVariants.{Exactly, EvenUpTo}
use Rattle.pm_map.specs.declared.refusal.MapRefusal.{MapRefusal}
use Rattle.pm_map.specs.declared.refusal.MapRefusal.TheVariants.{Memory as MemoryOfMap, TooMany, NotPermutation, NotConnected, Genus}
use Rattle.pm_map.specs.declared.class_refusal.ClassRefusal.{ClassRefusal}
use Rattle.pm_map.specs.declared.class_refusal.ClassRefusal.TheVariants as class
use Rattle.pm_map.specs.ClassRules.{IsLeastOther}
use Rattle.pm_map.specs.Plane.{vertices, edges, faces}
use Rattle.pm_map.specs.Rotation.{RotationSystem, structure_of, IsRootedMap}
use Rattle.pm_map.specs.Canonical.{IsCanonicalOf}
use Rattle.pm_map.specs.DualLaws.{IsDualOf}
use Rattle.pm_medial.specs.Medial.{IsMedialMap, IsUnmedialOf}
use Rattle.pm_general.specs.General.{most_general_edges}
use Rattle.pm_mapfile.specs.Answers.{AnswersFile}
use Rattle.pm_mapfile.specs.MapFile.{IsMapFile}
pub use Rattle.pm_mapfile.specs.MapText.{HasCanonicalText}
use Rattle.pm_mapfile.specs.MapText.{IsMapText}
use Rattle.pm_lists.specs.ListLine.{list_line}
use Rattle.pm_reach.specs.Layers.{Layers as MapLayers, AreLayers}
use Rattle.pm_open.specs.Opening.{IsOpening}
use Rattle.pm_cli.specs.declared.command.MapTask.{MapTask}
use Rattle.pm_cli.specs.declared.command.MapTask.TheVariants.{Canon, Medial, Unmedial, Dual, Layers}
use Rattle.pm_cli.specs.declared.refusal.Limit.TheVariants.{Edges}
use Rattle.pm_cli.specs.declared.refusal.MapRule.TheVariants.{Permutation, Connected, Euler, Empty, Vertex, Face, Loop, Double}
use Rattle.pm_cli.specs.declared.refusal.Refusal.{Refusal}
use Rattle.pm_cli.specs.declared.refusal.Refusal.TheVariants.{Text, Limited, Map}
use Rattle.pm_cli.specs.TreeFile.{IsTreeLine}

-- a map file with this property of its map, which has no more edges than the limit; its residue line isn't used
pub record HasMap (bytes : List ℕ) (limit : ℕ) (P : RotationSystem → Type 0) : Type 0 where
  pub residue : Option (List ℕ)
  pub map : RotationSystem
  pub answered : AnswersFile bytes limit residue (Ok map)
  pub holds : P map

-- a map file whose lines make no map within the limit, for this first reason
abbrev pub MakesNoMap : List ℕ → ℕ → MapRefusal → Type 0
MakesNoMap bytes limit why = (residue : Option (List ℕ)) × AnswersFile bytes limit residue (Err why)

-- how it is told that lines make no map; want of memory is no rule
abbrev pub rule_of_lines : MapRefusal → Option Refusal
rule_of_lines MemoryOfMap = None
rule_of_lines (TooMany edges) = Some (Limited (Edges edges))
rule_of_lines (NotPermutation dart) = Some (Map (Permutation dart))
rule_of_lines (NotConnected dart) = Some (Map (Connected dart))
rule_of_lines (Genus euler) = Some (Map (Euler euler))

-- how it is told that a map isn't of a class
abbrev pub rule_of_class : ClassRefusal → Option Refusal
rule_of_class class.Memory = None
rule_of_class class.Empty = Some (Map Empty)
rule_of_class (class.TooMany edges) = Some (Limited (Edges edges))
rule_of_class (class.Vertex dart) = Some (Map (Vertex dart))
rule_of_class (class.Face dart) = Some (Map (Face dart))
rule_of_class (class.Loop dart) = Some (Map (Loop dart))
rule_of_class (class.Double dart) = Some (Map (Double dart))

-- the first rule that a file of a form breaks, by the reasons for which its lines make no map
pub data RefusesFile (form : List ℕ → Type 0) (makes_no_map : MapRefusal → Type 0) (bytes : List ℕ) : Refusal → Type 0 where
  broken : (line : ℕ) → IsBrokenLine form bytes line → RefusesFile form makes_no_map bytes (Text line)
  makes_none : (refusal : Refusal) (why : MapRefusal) → rule_of_lines why ≡ Some refusal → makes_no_map why → RefusesFile form makes_no_map bytes refusal

-- the first rule that a map file breaks
abbrev pub RefusesMapFile : ℕ → List ℕ → Refusal → Type 0
RefusesMapFile limit bytes refusal = RefusesFile IsMapFile (MakesNoMap bytes limit) bytes refusal

-- what is answered to maps with at most so many edges: a text of a kind, or a rule of maps that is broken
pub record MapRelation : Type 1 where
  pub limit : ℕ
  pub text_of : RotationSystem → List ℕ → Type 0
  pub refuses : RotationSystem → ClassRefusal → Type 0

-- what is answered to a map file: what is answered to its map, or the first rule that the file breaks
pub data AnswersMap (relation : MapRelation) (bytes : List ℕ) : Result (List ℕ) Refusal → Type 0 where
  told : (text : List ℕ) → HasMap bytes relation.limit (λ map. relation.text_of map text) → AnswersMap relation bytes (Ok text)
  no_map : (refusal : Refusal) → RefusesMapFile relation.limit bytes refusal → AnswersMap relation bytes (Err refusal)
  breaks : (refusal : Refusal) (why : ClassRefusal) → rule_of_class why ≡ Some refusal → HasMap bytes relation.limit (λ map. relation.refuses map why) → AnswersMap relation bytes (Err refusal)

-- the text of the canonical map of another map, which is an image of the map
pub record HasTextOf (image : RotationSystem → RotationSystem → Type 0) (map : RotationSystem) (text : List ℕ) : Type 0 where
  pub other : RotationSystem
  pub rooted : IsRootedMap other
  pub is_image : image map other
  pub is_text : HasCanonicalText other text

-- a map that should have a dart has none
pub data HasNoDart (map : RotationSystem) : ClassRefusal → Type 0 where
  empty : length map.sigma ≡ 0 → HasNoDart map class.Empty

-- a map that should have a dart, and vertices of such degrees, has none, or one of another degree
pub data HasOtherDegrees (degrees : Degrees) (map : RotationSystem) : ClassRefusal → Type 0 where
  no_dart : length map.sigma ≡ 0 → HasOtherDegrees degrees map class.Empty
  other_degree : (dart : ℕ) → IsLeastOther (structure_of map) degrees dart → HasOtherDegrees degrees map (class.Vertex dart)

-- a line of the distances of the faces, and one of their parents
abbrev pub layers_lines : MapLayers → List ℕ
layers_lines layers = (list_line (codes "layers") layers.distances ++ newline ∷ []) ++ (list_line (codes "parents") layers.parents ++ newline ∷ [])

-- the text of the canonical map, and these lines of its layers
pub record HasLayersText (map : RotationSystem) (text : List ℕ) : Type 0 where
  pub canonical : RotationSystem
  pub is_canonical : IsCanonicalOf map canonical
  pub layers : MapLayers
  pub are_layers : AreLayers canonical layers
  pub map_text : List ℕ
  pub is_map_text : IsMapText canonical map_text
  pub whole : text ≡ map_text ++ layers_lines layers

-- what is printed for a map; a medial map has twice as many edges, so the map has no more than a general one
abbrev pub task_relation : MapTask → MapRelation
task_relation Canon = record { limit = MAX_EDGES; text_of = HasTextOf (λ map other. other ≡ map); refuses = λ map why. ⊥ }
task_relation Medial = record { limit = most_general_edges; text_of = HasTextOf (λ map other. (0 < length map.sigma) × IsMedialMap map other); refuses = HasNoDart }
task_relation Unmedial = record {
  limit = MAX_EDGES;
  text_of = HasTextOf (λ map other. (0 < length map.sigma) × IsUnmedialOf (structure_of map) other);
  refuses = HasOtherDegrees (Exactly 4);
}
task_relation Dual = record { limit = MAX_EDGES; text_of = HasTextOf IsDualOf; refuses = λ map why. ⊥ }
task_relation Layers = record { limit = MAX_EDGES; text_of = HasLayersText; refuses = λ map why. ⊥ }

-- the tasks that print the text of a map, and nothing else
abbrev pub PrintsImage : MapTask → Type 0
PrintsImage Canon = ⊤
PrintsImage Medial = ⊤
PrintsImage Unmedial = ⊤
PrintsImage Dual = ⊤
PrintsImage Layers = ⊥

-- `ok V E F`: how many vertices, edges and faces the map has
abbrev pub counts_line : RotationSystem → List ℕ
counts_line map =
    let s = structure_of map in
    codes "ok " ++ decimal (vertices s) ++ codes " " ++ decimal (edges s) ++ codes " " ++ decimal (faces s) ++ newline ∷ []

abbrev pub IsCountsText : RotationSystem → List ℕ → Type 0
IsCountsText map text = text ≡ counts_line map

-- a map of a class with at most so many edges is told its counts, another the first rule that it breaks
abbrev pub counting : {Measure : Type 0} → ℕ → (RotationSystem → Result Measure ClassRefusal → Type 0) → MapRelation
counting {Measure} most answers =
    record { limit = most; text_of = λ map text. ((size : Measure) × answers map (Ok size)) × IsCountsText map text; refuses = λ map why. answers map (Err why) }

-- the text is the tree file of the opening of the map
pub record HasOpenText (map : RotationSystem) (text : List ℕ) : Type 0 where
  pub word : List ℕ
  pub opened : IsOpening map word
  pub is_text : IsTreeLine word text

-- a map with even degrees is told its opening
abbrev pub opening : MapRelation
opening = record { limit = MAX_EDGES; text_of = HasOpenText; refuses = HasOtherDegrees (EvenUpTo MAX_DEGREE) }
