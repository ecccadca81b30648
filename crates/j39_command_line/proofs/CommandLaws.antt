-- What is known of the commands.
use Rattle.std.proofs.Common.{◌≡◌, ◌⊎◌, ◌∙◌, ap, inl, inr, refl, subst, sym, true, false, Err, IfOk, IsOkAnd, List, Ok, Result}
use Rattle.std.proofs.lemmas.Bool.{true≢false}
use Rattle.clap.specs.Words.{App, HasKind, IsAmong, Text, app_of, fault_of, is_simple, is_simple_and_free, with_subcommand}
use Rattle.clap.specs.declared.builder.command.Command.{Command}
use Rattle.clap.specs.declared.error.Error.{Error}
use Rattle.clap.specs.declared.error.kind.ErrorKind.{ErrorKind}
use Rattle.clap.specs.declared.error.kind.ErrorKind.TheVariants.{OutOfMemory}
use Rattle.j39_command_line.specs.Commands.{commands}
use Rattle.j39_command_line.specs.Orders.{AreRefused, AsksHelp, faults_of_words, asks_for_text}

-- the command is one of which `clap` gives the matches
pub is_simple_commands : is_simple commands ≡ true
unfolding commands
is_simple_commands = refl

-- no value of the command has a rule on another
pub is_simple_and_free_commands : is_simple_and_free commands ≡ true
unfolding commands
is_simple_and_free_commands = refl

-- a subcommand that is known was added
pub added : {E : Type 0} (program made sub : Result Command E) (wanted : App) → IfOk sub (λ s. app_of s ≡ wanted)
    → IfOk made (λ c. IsOkAnd program (λ p. IsOkAnd sub (λ s. app_of c ≡ with_subcommand (app_of p) (app_of s).top)))
    → IfOk made (λ c. IsOkAnd program (λ p. app_of c ≡ with_subcommand (app_of p) wanted.top))
added (Ok p) (Ok c) (Ok s) wanted is adds = adds ∙ ap (λ (a : App). with_subcommand (app_of p) a.top) is
added (Ok p) (Ok c) (Err e) wanted is adds = absurd adds
added (Err e) (Ok c) sub wanted is adds = absurd adds
added program (Err e) sub wanted is adds = tt

-- so it was to a program that is known
pub known : {E : Type 0} (program made : Result Command E) (a sub : App) → IfOk program (λ p. app_of p ≡ a)
    → IfOk made (λ c. IsOkAnd program (λ p. app_of c ≡ with_subcommand (app_of p) sub.top)) → IfOk made (λ c. app_of c ≡ with_subcommand a sub.top)
known (Ok p) (Ok c) a sub is adds = adds ∙ ap (λ (b : App). with_subcommand b sub.top) is
known (Err e) (Ok c) a sub is adds = absurd adds
known program (Err e) a sub is adds = tt

-- what is reported of words is a fault of theirs, or want of memory
pub has_fault : (a : App) (words : List Text) (e : Error) → a ≡ commands → HasKind (fault_of a words) e → HasKind (faults_of_words words) e
unfolding faults_of_words
has_fault a words e is has = subst (λ (b : App). HasKind (fault_of b words) e) is has

-- a request that is reported is one of the words
pub asks : (words : List Text) (k : ErrorKind) → (k ≡ OutOfMemory) ⊎ IsAmong k (faults_of_words words) → asks_for_text k ≡ true → AsksHelp words
asks words k (inl memory) is = absurd (true≢false (sym is ∙ ap asks_for_text memory))
asks words k (inr among) is = (k, among, is)

-- another fault that is reported is one of the words, unless memory was wanted
pub refuses : (words : List Text) (k : ErrorKind) → (k ≡ OutOfMemory) ⊎ IsAmong k (faults_of_words words) → asks_for_text k ≡ false
    → (k ≡ OutOfMemory → ⊥) → AreRefused words
refuses words k (inl memory) is other = absurd (other memory)
refuses words k (inr among) is other = inl (k, among, is)
