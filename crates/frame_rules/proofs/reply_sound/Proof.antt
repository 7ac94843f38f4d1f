use borrow.Author.Rules.{rules}
use Rattle.state.specs.Frame.{reply_sound}
use Rattle.frame_rules.proofs.Laws.{to_reply}
use Rattle.base.specs.Truth.{and_told}
use Rattle.frame_rules.proofs.reply_sound.Statement.{statement}
use Rattle.frame_rules.proofs.reply_sound.Tie as tie

pub reply_sound_spec : {M : Type 1} → statement M
unfolding reply_sound
reply_sound_spec =
    tie.close
    (tie.spec (λ c. search rules) (λ c. search rules) (λ c. search rules) (λ c κs. search rules) (λ c. search rules)
    (λ c. search (rules, to_reply)) (λ c. search (rules, to_reply)) (λ c. search (rules, to_reply, and_told))
    (λ c. search (rules, to_reply)))
