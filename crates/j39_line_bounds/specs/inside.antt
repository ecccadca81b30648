pub mod StandingSteps
