-- The items of a script.
use Rattle.std.specs.Prelude.{ℕ, List}
use Rattle.dd_file.specs.DirectiveText.{DirectiveText}
use Rattle.dd_file.specs.declared.item.ItemKind.{ItemKind}
use Rattle.dd_file.specs.declared.item.ItemKind.TheVariants as kind

-- an item: the lines of a comment or of a blank, or a directive
pub data Item : Type 0 where
  Comment : List (List ℕ) → Item
  Blank : List (List ℕ) → Item
  Directive : DirectiveText → Item

-- the item of this kind, by a directive that has its raw lines
abbrev pub item_of : ItemKind → DirectiveText → Item
item_of kind.Comment text = Comment text.raw_lines
item_of kind.Blank text = Blank text.raw_lines
item_of kind.Directive text = Directive text
