mod RestoreSteps
