mod PlayerLaws
mod WalkLaws
