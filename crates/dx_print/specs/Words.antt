-- The event words and their texts.
use Rattle.std.specs.Prelude.{ℕ, List, [], ◌∷◌, codes, find, Option}
use Rattle.std.specs.Str.{bytes_eq}
use Rattle.dx_print.specs.declared.words.Word.{Word}
use Rattle.dx_print.specs.declared.words.Word.TheVariants.{Genesis, Place, Cancel, CancelAll, Message, Feed, Sweep, Propose, Block, Show, Check, Commit, Balance, Spec, Filled, Best, Audit, Digest, Restart, Waits, Snap, Resume}

-- the text of a word
abbrev pub word_text : Word → List ℕ
word_text Genesis = codes "genesis"
word_text Place = codes "place"
word_text Cancel = codes "cancel"
word_text CancelAll = codes "cancelall"
word_text Message = codes "message"
word_text Feed = codes "feed"
word_text Sweep = codes "sweep"
word_text Propose = codes "propose"
word_text Block = codes "block"
word_text Show = codes "show"
word_text Check = codes "check"
word_text Commit = codes "commit"
word_text Balance = codes "balance"
word_text Spec = codes "spec"
word_text Filled = codes "filled"
word_text Best = codes "best"
word_text Audit = codes "audit"
word_text Digest = codes "digest"
word_text Restart = codes "restart"
word_text Waits = codes "waits"
word_text Snap = codes "snap"
word_text Resume = codes "resume"

-- all words
abbrev pub words : List Word
words = Genesis ∷ Place ∷ Cancel ∷ CancelAll ∷ Message ∷ Feed ∷ Sweep ∷ Propose ∷ Block ∷ Show ∷ Check ∷ Commit ∷ Balance ∷ Spec ∷ Filled ∷ Best ∷ Audit ∷ Digest ∷ Restart ∷ Waits ∷ Snap ∷ Resume ∷ []

-- the word of a text; any other text is none
unfoldable pub word_named : List ℕ → Option Word
word_named text = find (λ w. bytes_eq text (word_text w)) words
