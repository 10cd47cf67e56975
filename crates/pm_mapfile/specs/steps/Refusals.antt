-- Refusals of a map text and of its lines, as refusals of a map file.
use Rattle.pm_map.specs.declared.refusal.MapRefusal.{MapRefusal}
use Rattle.pm_map.specs.declared.refusal.MapRefusal.TheVariants.{Memory as MemoryOfMap, TooMany, NotPermutation, NotConnected, Genus}
use Rattle.pm_mapfile.specs.declared.read.TextRefusal.{TextRefusal}
use Rattle.pm_mapfile.specs.declared.read.TextRefusal.TheVariants.{Memory as MemoryOfText, Text as LineOfText}
use Rattle.pm_mapfile.specs.declared.refusal.FileRefusal.{FileRefusal}
use Rattle.pm_mapfile.specs.declared.refusal.FileRefusal.TheVariants.{Memory, Text, Map}

-- a broken line stays one, and so does want of memory
abbrev pub refusal_of_text : TextRefusal → FileRefusal
refusal_of_text MemoryOfText = Memory
refusal_of_text (LineOfText line) = Text line

-- want of memory stays one, any other rule is one of the map
abbrev pub refusal_of_map : MapRefusal → FileRefusal
refusal_of_map MemoryOfMap = Memory
refusal_of_map (TooMany edges) = Map (TooMany edges)
refusal_of_map (NotPermutation dart) = Map (NotPermutation dart)
refusal_of_map (NotConnected dart) = Map (NotConnected dart)
refusal_of_map (Genus euler) = Map (Genus euler)
