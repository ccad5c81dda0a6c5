use Rattle.dd_file.specs.Grammar.{script_of}
use Rattle.dd_file.proofs.ScriptGrammar.GivenItems.{script_of-given}
use Rattle.dd_file.proofs.DirectiveTokens.Keys.{items-keys}
use Rattle.dd_file.proofs.laws.items_have_keys.Goals as goal

pub returns : goal.returns
returns c input = items-keys (script_of input).items (script_of-given input)
